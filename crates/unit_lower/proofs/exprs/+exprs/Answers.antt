use Rattle.std.proofs.Common.{◌≡◌, true, rules, arith}
use Rattle.unit_input.specs.declared.expr.UnitExpr.{the_lemmas}
use Rattle.unit_input.specs.InputView.{expr_view}
use Rattle.unit_lower.specs.ValueView.{is_over_expr}
use Rattle.unit_lower.proofs.Over.{over_left_seen, right_rules_seen, over_bound_seen, above_after}
use Rattle.unit_lower.proofs.ValueLists.{over_item, more_item, at_end}
use Rattle.unit_lower.proofs.exprs.+exprs.Goals as goal

pub value-returns-in_err-a-in-Binary-clause-wide : goal.value-returns-in_err-a-in-Binary-clause-wide
value-returns-in_err-a-in-Binary-clause-wide t c = λ h.
    let over : is_over_expr c.args.scope.now (expr_view c.get-in-Binary.result.now) c.args.next.now ≡ true = search rules in
    over_left_seen _ _ _ _ c.in-Binary.b _ _ c.in-Binary.is c.get-in-Binary.ensures over

pub value-value-requires-in-Binary-2 : goal.value-value-requires-in-Binary-2
value-value-requires-in-Binary-2 t c =
    (first_of (search (rules, the_lemmas), grind (arith, the_lemmas)), (right_rules_seen _ _ _ c.in-Binary.a _ _ c.in-Binary.is c.get-in-Binary-2.ensures c.requires.rules, above_after c.args.scope.now (expr_view c.get-in-Binary.result.now) c.args.next.now _ c.requires.above c.in_ok-a-in-Binary.ensures.next))

pub value-returns-in_ok-whole-in-Field-clause-wide : goal.value-returns-in_ok-whole-in-Field-clause-wide
value-returns-in_ok-whole-in-Field-clause-wide t c = λ h.
    over_bound_seen _ _ _ _ _ _ _ _ _ c.in-Field.is c.get.ensures c.in_ok-whole-in-Field.ensures.value c.in_ok-whole-in-Field.ensures.next (c.part.ensures.wide h)

pub values-returns-in_err-part-clause-wide : goal.values-returns-in_err-part-clause-wide
values-returns-in_err-part-clause-wide t c = λ h.
    let over : is_over_expr c.args.scope.now (expr_view c.e-item.result) c.loop-e.next ≡ true = search rules in
    over_item _ _ _ _ _ _ _ _ _ c.loop-e-test.true c.loop-e.invariant c.e-item.is over

pub values-loop-e-preserved : goal.values-loop-e-preserved
values-loop-e-preserved t c =
    more_item _ _ _ _ _ _ _ _ _ _ _ _ _ _ c.loop-e-test.true c.loop-e.invariant c.e-item.is c.in_ok-part.ensures.value c.in_ok-part.ensures.next c.in_ok-into_expr.ensures (search rules) c.in_ok-push.ensures.ok

pub values-returns-clause-made : goal.values-returns-clause-made
values-returns-clause-made t c = (at_end _ _ _ _ _ _ _ _ c.loop-e-test.false c.loop-e.invariant).made_is
