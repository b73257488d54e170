use Rattle.std.proofs.Common.{ℕ, List, length, get_or, ◌<◌, ◌≤◌, ◌∙◌, subst, arith}
use Rattle.type_widths.proofs.Levels.{done_all, done_none}
use Rattle.type_widths.proofs.row_forms.forms.Goals as goal

pub loop-level-init : goal.loop-level-init
loop-level-init c = done_none c.args.types.now c.args.structs.now c.in_ok-forms.forms.items (c.in_ok-forms.ensures ∙ c.len.ensures.len)

pub returns : goal.returns
returns c =
    done_all c.args.types.now c.args.structs.now c.in_ok-levels.levels.items c.deepest.result c.loop-level.level c.loop-level.forms.items c.in_ok-levels.ensures.count c.in_ok-levels.ensures.each c.requires
    (subst (λ (xs : List ℕ). (r : ℕ) → r < length xs → get_or xs r 0 ≤ c.deepest.result) c.deref.ensures.value c.deepest.ensures)
    (omega (arith, c.min-last.ensures, c.loop-level-test.false)) c.loop-level.invariant
