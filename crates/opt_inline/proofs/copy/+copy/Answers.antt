use Rattle.std.proofs.Common.{sym, ap, ◌∙◌}
use Rattle.std.proofs.Math.ListN.{drop_of_length-le}
use Rattle.unit_ir.specs.ExprView.{exprs_view}
use Rattle.opt_slots.proofs.Ahead.{exprs_before, exprs_before-none}
use Rattle.opt_inline.proofs.Copies.{copied_more}
use Rattle.opt_inline.proofs.copy.+copy.Goals as goal

pub all_copied-loop-part-preserved : goal.all_copied-loop-part-preserved
all_copied-loop-part-preserved t c =
    copied_more c.args.parts.now c.loop-part.part-index c.part-item.result c.loop-part.done.items c.push.new.self.items c.in_ok-copied.field-0 _
    c.loop-part-test.true c.part-item.is c.in_ok-push.ensures.items c.in_ok-copied.ensures c.loop-part.invariant

pub all_copied-returns : goal.all_copied-returns
all_copied-returns t c =
    ap exprs_view c.from_vec.ensures
    ∙ sym (exprs_before-none c.loop-part.done.items)
    ∙ ap (λ l. exprs_before c.loop-part.done.items (exprs_view l)) (sym (drop_of_length-le c.args.parts.now c.loop-part-test.false))
    ∙ c.loop-part.invariant
