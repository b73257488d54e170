use Rattle.std.proofs.Common.{refl, rules, length}
use Rattle.std.specs.Fmt.{signed_decimal}
use Rattle.type_table.specs.declared.row.Row.TheVariants.{Int, Bool as Boolean, Param, Number, End}
use Rattle.type_sizes.proofs.TextLengths.{row_length, small, more_length, tuple_length, struct_length_is}
use Rattle.type_sizes.proofs.text_lengths.text_length.Goals as goal

pub returns-in-Int : goal.returns-in-Int
returns-in-Int c = row_length c.args.types.now c.args.structs.now c.args.generics.now c.args.number 3 Int c.in-Int.ensures.stands refl

pub returns-in-Bool : goal.returns-in-Bool
returns-in-Bool c = row_length c.args.types.now c.args.structs.now c.args.generics.now c.args.number 4 Boolean c.in-Bool.ensures.stands refl

pub returns-in-End : goal.returns-in-End
returns-in-End c = row_length c.args.types.now c.args.structs.now c.args.generics.now c.args.number 0 End c.in-End.ensures.stands refl

pub returns-in-Param : goal.returns-in-Param
returns-in-Param c = row_length c.args.types.now c.args.structs.now c.args.generics.now c.args.number c.generic_length.result (Param c.in-Param.place) c.in-Param.ensures.stands (small _ _ c.generic_length.type_inv c.generic_length.ensures)

pub returns-in-Number : goal.returns-in-Number
returns-in-Number c = row_length c.args.types.now c.args.structs.now c.args.generics.now c.args.number c.number_length.result (Number c.in-Number.value) c.in-Number.ensures.stands (small c.number_length.result (length (signed_decimal c.in-Number.value)) c.number_length.type_inv (search rules))

pub returns-in-More : goal.returns-in-More
returns-in-More c = more_length c.args.types.now c.args.structs.now c.args.generics.now c.args.lengths.now c.args.number c.in-More.first c.in-More.others c.comma_length.result c.saturating_add-front.result c.saturating_add.result c.in-More.ensures.stands c.in-More.ensures.earlier c.requires.next c.requires.known c.comma_length.ensures c.saturating_add-front.ensures c.saturating_add.ensures

pub returns-in-Tuple : goal.returns-in-Tuple
returns-in-Tuple c = tuple_length c.args.types.now c.args.structs.now c.args.generics.now c.args.lengths.now c.args.number c.in-Tuple.parts c.saturating_add-in-Tuple.result c.in-Tuple.ensures.stands c.in-Tuple.ensures.earlier c.requires.next c.requires.known c.saturating_add-in-Tuple.ensures

pub returns-in-Struct : goal.returns-in-Struct
returns-in-Struct c = struct_length_is c.args.types.now c.args.structs.now c.args.generics.now c.args.lengths.now c.args.number c.in-Struct.name c.in-Struct.list c.struct_length.result c.angled_length-list.result c.saturating_add-in-Struct.result c.in-Struct.ensures.stands c.in-Struct.ensures.earlier c.requires.next c.requires.known c.struct_length.ensures c.angled_length-list.ensures c.saturating_add-in-Struct.ensures
