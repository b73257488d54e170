use Rattle.std.proofs.Common.{refl, sym, length}
use Rattle.std.proofs.lemmas.Bool.{ltb-true}
use Rattle.std.proofs.lemmas.Option.{slice_get_read, slice_get_past}
use Rattle.std.proofs.lemmas.Result.{IfOk-weaker}
use Rattle.type_widths.proofs.Forming.{missing_form, decl_form}
use Rattle.type_widths.proofs.row_forms.struct_form.Goals as goal

pub returns-in-None : goal.returns-in-None
returns-in-None c = IfOk-weaker c.constant.result _ _ (λ new h. missing_form c.args.types.now c.args.structs.now c.args.name _ new.items (slice_get_past c.args.structs.now c.args.name c.in-None.ensures.lookup.3) h) c.constant.ensures

pub applied-requires-clause-fields : goal.applied-requires-clause-fields
applied-requires-clause-fields c = decl_form c.args.types.now c.args.structs.now c.args.level c.args.number c.args.name c.in-Some.decl.now c.args.forms.now c.index-forms-decl.result c.deref.result.now c.requires.falling c.requires.known c.requires.under (slice_get_read c.args.structs.now (length c.args.structs.now) c.args.name c.in-Some.decl.now refl (ltb-true c.args.name (length c.args.structs.now) (sym c.in-Some.ensures.lookup.0)) c.in-Some.ensures.lookup.1) c.index-forms-decl.is c.deref.ensures.value

pub applied-requires-clause-size : goal.applied-requires-clause-size
applied-requires-clause-size c = (decl_form c.args.types.now c.args.structs.now c.args.level c.args.number c.args.name c.in-Some.decl.now c.args.forms.now c.index-forms-decl.result c.deref.result.now c.requires.falling c.requires.known c.requires.under (slice_get_read c.args.structs.now (length c.args.structs.now) c.args.name c.in-Some.decl.now refl (ltb-true c.args.name (length c.args.structs.now) (sym c.in-Some.ensures.lookup.0)) c.in-Some.ensures.lookup.1) c.index-forms-decl.is c.deref.ensures.value).size
