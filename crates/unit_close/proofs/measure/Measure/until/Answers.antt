use Rattle.std.proofs.Common.{refl, sym, length}
use Rattle.std.proofs.lemmas.Bool.{ltb-true}
use Rattle.std.proofs.lemmas.Option.{slice_get_read, slice_get_past}
use Rattle.std.proofs.lemmas.Result.{IfOk-weaker}
use Rattle.unit_close.proofs.Offsets.{tuple_row, struct_row, struct_arguments, fields_row, tuple_until, struct_until, struct_nothing}
use Rattle.unit_close.proofs.measure.Measure.until.Goals as goal

pub first_words-requires-clause-list : goal.first_words-requires-clause-list
first_words-requires-clause-list c = tuple_row _ c.args.row c.in-Tuple.list c.in-Tuple.ensures.stands c.in-Tuple.ensures.earlier c.requires.place

pub field_words-requires-clause-list : goal.field_words-requires-clause-list
field_words-requires-clause-list c = struct_row _ c.args.row c.in-Struct.number c.in-Struct.list c.in-Struct.ensures.stands c.in-Struct.ensures.earlier c.requires.place

pub field_words-requires-clause-arguments : goal.field_words-requires-clause-arguments
field_words-requires-clause-arguments c = struct_arguments _ c.args.row c.in-Struct.number c.in-Struct.list c.in-Struct.ensures.stands c.requires.place

pub field_words-requires-clause-fields : goal.field_words-requires-clause-fields
field_words-requires-clause-fields c = fields_row c.args.self.now c.in-Struct.number c.in-Some.decl.now c.requires.measure (slice_get_read c.args.self.now.structs.now (length c.args.self.now.structs.now) c.in-Struct.number c.in-Some.decl.now refl (ltb-true c.in-Struct.number (length c.args.self.now.structs.now) (sym c.in-Some.ensures.lookup.0)) c.in-Some.ensures.lookup.1)

pub returns-in-Tuple : goal.returns-in-Tuple
returns-in-Tuple c = tuple_until c.args.self.now.types.now c.args.self.now.structs.now c.args.widths.now c.args.row c.in-Tuple.list c.args.k c.first_words.result c.in-Tuple.ensures.stands c.first_words.ensures

pub returns-in-None : goal.returns-in-None
returns-in-None c = struct_nothing c.args.self.now.types.now c.args.self.now.structs.now c.args.widths.now c.args.row c.in-Struct.number c.in-Struct.list c.args.k c.in-Struct.ensures.stands (slice_get_past c.args.self.now.structs.now c.in-Struct.number c.in-None.ensures.lookup.3)

pub returns-in-Some : goal.returns-in-Some
returns-in-Some c = IfOk-weaker c.field_words.result _ _ (λ w h. struct_until c.args.self.now.types.now c.args.self.now.structs.now c.args.widths.now c.args.row c.in-Struct.number c.in-Struct.list c.args.k w c.in-Some.decl.now c.in-Struct.ensures.stands (slice_get_read c.args.self.now.structs.now (length c.args.self.now.structs.now) c.in-Struct.number c.in-Some.decl.now refl (ltb-true c.in-Struct.number (length c.args.self.now.structs.now) (sym c.in-Some.ensures.lookup.0)) c.in-Some.ensures.lookup.1) h) c.field_words.ensures
