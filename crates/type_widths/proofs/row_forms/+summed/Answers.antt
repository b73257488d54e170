use Rattle.std.proofs.Common.{rules, arith}
use Rattle.std.proofs.lemmas.Result.{IfOk-weaker}
use Rattle.type_widths.proofs.Forming.{sum_turn, more_levels, first_form, sizes_same}
use Rattle.type_widths.proofs.row_forms.+summed.Goals as goal

pub summed-requires : goal.summed-requires
summed-requires t c = (
  first_of (search rules, grind arith),
  (omega (arith, c.in-More.ensures.earlier.1, c.requires.within), (omega (arith, c.in-More.ensures.earlier.1, c.requires.early), ((more_levels c.args.types.now c.args.structs.now c.args.list c.in-More.first c.in-More.others c.args.level c.in-More.ensures.stands c.requires.low).1, c.requires.known))),
)

pub scaled-requires : goal.scaled-requires
scaled-requires t c =
    sizes_same c.deref-in-More.result.now c.index-forms-first.result.items c.deref.result.now c.in_ok-total-in-More.total.items c.deref-in-More.ensures.value
    (first_form c.args.types.now c.args.structs.now c.args.level c.args.before c.args.list c.in-More.first c.in-More.others c.args.forms.now c.index-forms-first.result c.requires.known c.in-More.ensures.stands c.in-More.ensures.earlier c.requires.within (omega (arith, c.requires.early)) c.requires.low c.index-forms-first.is).size
    c.deref.ensures.value c.in_ok-total-in-More.ensures.size

pub returns-in_ok-total-in-More : goal.returns-in_ok-total-in-More
returns-in_ok-total-in-More t c =
    IfOk-weaker c.scaled.result _ _ (λ new s. sum_turn c.args.types.now c.args.structs.now c.args.list c.in-More.first c.in-More.others c.args.factors.now c.in_ok-total-in-More.total.items c.deref.result.now c.deref-in-More.result.now c.index-forms-first.result.items new.items (search rules) c.in-More.ensures.stands c.in_ok-total-in-More.ensures c.deref.ensures.value
    (first_form c.args.types.now c.args.structs.now c.args.level c.args.before c.args.list c.in-More.first c.in-More.others c.args.forms.now c.index-forms-first.result c.requires.known c.in-More.ensures.stands c.in-More.ensures.earlier c.requires.within (omega (arith, c.requires.early)) c.requires.low c.index-forms-first.is)
    c.deref-in-More.ensures.value s) c.scaled.ensures
