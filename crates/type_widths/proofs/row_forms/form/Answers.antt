use Rattle.std.proofs.Common.{arith}
use Rattle.std.proofs.lemmas.Result.{IfOk-weaker}
use Rattle.type_widths.proofs.Forming.{int_form, bool_form, number_form, end_form, param_form, more_row, tuple_row, struct_row, first_form, others_form, parts_form, sizes_same, low_here, struct_levels}
use Rattle.type_widths.proofs.row_forms.form.Goals as goal

pub scaled-requires : goal.scaled-requires
scaled-requires c =
    sizes_same c.deref-in-More.result.now c.index-forms-first.result.items c.deref.result.now c.index-forms-others.result.items c.deref-in-More.ensures.value
    (first_form c.args.types.now c.args.structs.now c.args.level c.args.number c.args.number c.in-More.first c.in-More.others c.args.forms.now c.index-forms-first.result c.requires.known c.in-More.ensures.stands c.in-More.ensures.earlier c.requires.within (omega arith) (low_here _ _ c.requires.here) c.index-forms-first.is).size
    c.deref.ensures.value
    (others_form c.args.types.now c.args.structs.now c.args.level c.args.number c.args.number c.in-More.first c.in-More.others c.args.forms.now c.index-forms-others.result c.requires.known c.in-More.ensures.stands c.in-More.ensures.earlier c.requires.within (omega arith) (low_here _ _ c.requires.here) c.index-forms-others.is).size

pub scaled-requires-in-Tuple : goal.scaled-requires-in-Tuple
scaled-requires-in-Tuple c =
    sizes_same c.deref-in-Tuple-2.result.now c.index-forms-parts.result.items c.deref-in-Tuple.result.now c.in_ok-none-in-Tuple.none.items c.deref-in-Tuple-2.ensures.value
    (parts_form c.args.types.now c.args.structs.now c.args.level c.args.number c.in-Tuple.parts c.args.forms.now c.index-forms-parts.result c.requires.known c.in-Tuple.ensures.stands c.in-Tuple.ensures.earlier c.requires.within c.requires.here c.index-forms-parts.is).size
    c.deref-in-Tuple.ensures.value c.in_ok-none-in-Tuple.ensures.0

pub struct_form-requires-clause-low : goal.struct_form-requires-clause-low
struct_form-requires-clause-low c = (struct_levels c.args.types.now c.args.structs.now c.args.number c.in-Struct.name c.in-Struct.list c.args.level c.in-Struct.ensures.stands c.requires.here).1

pub struct_form-requires-clause-under : goal.struct_form-requires-clause-under
struct_form-requires-clause-under c = (struct_levels c.args.types.now c.args.structs.now c.args.number c.in-Struct.name c.in-Struct.list c.args.level c.in-Struct.ensures.stands c.requires.here).0

pub returns-in-Int : goal.returns-in-Int
returns-in-Int c = IfOk-weaker c.constant.result _ _ (λ new h. int_form _ _ _ new.items c.in-Int.ensures.stands h) c.constant.ensures

pub returns-in-Bool : goal.returns-in-Bool
returns-in-Bool c = IfOk-weaker c.constant-in-Bool.result _ _ (λ new h. bool_form _ _ _ new.items c.in-Bool.ensures.stands h) c.constant-in-Bool.ensures

pub returns-in-Number : goal.returns-in-Number
returns-in-Number c = IfOk-weaker c.constant-in-Number.result _ _ (λ new h. number_form _ _ _ c.in-Number.field-0 new.items c.in-Number.ensures.stands h) c.constant-in-Number.ensures

pub returns-in-End : goal.returns-in-End
returns-in-End c = IfOk-weaker c.constant-in-End.result _ _ (λ new h. end_form _ _ _ new.items c.in-End.ensures.stands h) c.constant-in-End.ensures

pub returns-in-Param : goal.returns-in-Param
returns-in-Param c = IfOk-weaker c.generic.result _ _ (λ new h. param_form _ _ _ c.in-Param.k new.items c.in-Param.ensures.stands h) c.generic.ensures

pub returns-in-More : goal.returns-in-More
returns-in-More c =
    IfOk-weaker c.scaled.result _ _ (λ new s. more_row c.args.types.now c.args.structs.now c.args.number c.in-More.first c.in-More.others c.deref-in-More.result.now c.deref.result.now c.index-forms-first.result.items c.index-forms-others.result.items new.items c.in-More.ensures.stands
    (first_form c.args.types.now c.args.structs.now c.args.level c.args.number c.args.number c.in-More.first c.in-More.others c.args.forms.now c.index-forms-first.result c.requires.known c.in-More.ensures.stands c.in-More.ensures.earlier c.requires.within (omega arith) (low_here _ _ c.requires.here) c.index-forms-first.is)
    (others_form c.args.types.now c.args.structs.now c.args.level c.args.number c.args.number c.in-More.first c.in-More.others c.args.forms.now c.index-forms-others.result c.requires.known c.in-More.ensures.stands c.in-More.ensures.earlier c.requires.within (omega arith) (low_here _ _ c.requires.here) c.index-forms-others.is)
    c.deref-in-More.ensures.value c.deref.ensures.value s) c.scaled.ensures

pub returns-in_ok-none-in-Tuple : goal.returns-in_ok-none-in-Tuple
returns-in_ok-none-in-Tuple c =
    IfOk-weaker c.scaled-in-Tuple.result _ _ (λ new s. tuple_row c.args.types.now c.args.structs.now c.args.number c.in-Tuple.parts c.deref-in-Tuple-2.result.now c.index-forms-parts.result.items c.deref-in-Tuple.result.now c.in_ok-none-in-Tuple.none.items new.items c.in-Tuple.ensures.stands
    (parts_form c.args.types.now c.args.structs.now c.args.level c.args.number c.in-Tuple.parts c.args.forms.now c.index-forms-parts.result c.requires.known c.in-Tuple.ensures.stands c.in-Tuple.ensures.earlier c.requires.within c.requires.here c.index-forms-parts.is)
    c.deref-in-Tuple-2.ensures.value c.deref-in-Tuple.ensures.value c.in_ok-none-in-Tuple.ensures s) c.scaled-in-Tuple.ensures

pub returns-in-Struct : goal.returns-in-Struct
returns-in-Struct c = IfOk-weaker c.struct_form.result _ _ (λ new p. struct_row c.args.types.now c.args.structs.now c.args.number c.in-Struct.name c.in-Struct.list new.items c.in-Struct.ensures.stands p) c.struct_form.ensures
