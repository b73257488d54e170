use Rattle.std.proofs.Common.{rules, ◌≡◌, [], sym, ap, ◌∙◌, arith}
use Rattle.std.specs.Prelude.{reverse}
use Rattle.unit_ir.specs.ExprView.{exprs_view}
use Rattle.opt_slots.proofs.Ahead.{exprs_before, exprs_before-none, next_cost}
use Rattle.opt_inline.specs.Inline.{inlined_exprs}
use Rattle.opt_inline.specs.SmallView.{smalls_view}
use Rattle.opt_inline.proofs.Turns.{expr_done, expr_counted}
use Rattle.opt_inline.proofs.exprs.+inlined.Goals as goal

pub inlined_exprs-loop-part-preserved : goal.inlined_exprs-loop-part-preserved
inlined_exprs-loop-part-preserved t c =
    let taken = c.in-Some.ensures.items in
    let cost = next_cost c.loop-part.rest.items c.pop.new.self.items c.in-Some.part taken in (
      omega (arith, cost, c.loop-part.invariant.0),
      expr_done (smalls_view c.args.small.now) c.loop-part.slots c.inlined_expr.new.slots c.loop-part.rest.items c.pop.new.self.items c.in-Some.part c.loop-part.done.items c.push.new.self.items c.in_ok-inlined_expr.field-0 _
          taken c.in_ok-push.ensures.items c.in_ok-inlined_expr.ensures.expr c.in_ok-inlined_expr.ensures.slots c.loop-part.invariant.1,
      expr_counted (smalls_view c.args.small.now) c.loop-part.slots c.inlined_expr.new.slots c.loop-part.rest.items c.pop.new.self.items c.in-Some.part _ taken c.in_ok-inlined_expr.ensures.slots c.loop-part.invariant.2,
    )

pub inlined_exprs-returns-clause-parts : goal.inlined_exprs-returns-clause-parts
inlined_exprs-returns-clause-parts t c =
    let none : c.loop-part.rest.items ≡ [] = search rules in
    ap exprs_view c.from_vec.ensures
    ∙ sym (exprs_before-none c.loop-part.done.items)
    ∙ ap (λ l. exprs_before c.loop-part.done.items (inlined_exprs (smalls_view c.args.small.now) c.loop-part.slots (exprs_view (reverse l)))) (sym none)
    ∙ c.loop-part.invariant.1
