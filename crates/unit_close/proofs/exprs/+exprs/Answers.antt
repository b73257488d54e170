use Rattle.std.proofs.Common.{◌∙◌, ap}
use Rattle.std.proofs.lemmas.Result.{IfOk-weaker}
use Rattle.unit_input.specs.declared.expr.BinaryOp.{BinaryOp as UnitBinary}
use Rattle.unit_input.specs.Exprs as unit
use Rattle.unit_input.specs.InputView as unit_view
use Rattle.unit_close.proofs.ExprLists.{binary_made, more_item, at_end}
use Rattle.unit_close.proofs.exprs.+exprs.Goals as goal

pub close_expr-returns-in_ok-right-in-Binary : goal.close_expr-returns-in_ok-right-in-Binary
close_expr-returns-in_ok-right-in-Binary t c =
    IfOk-weaker c.binary.result _ _ (λ r h. binary_made _ _ _ _ c.args.expr.now c.in-Binary.left c.in-Binary.right c.get-in-Binary.result.now c.get-in-Binary-2.result.now c.in-Binary.op _ _ _ c.in-Binary.is c.get-in-Binary.ensures c.get-in-Binary-2.ensures c.in_ok-left-in-Binary.ensures c.in_ok-right-in-Binary.ensures (h ∙ ap (λ (o : UnitBinary). unit.binary o (unit_view.expr_view c.in_ok-left-in-Binary.left) (unit_view.expr_view c.in_ok-right-in-Binary.right)) c.binary_of.ensures)) c.binary.ensures

pub close_exprs-loop-expr-preserved : goal.close_exprs-loop-expr-preserved
close_exprs-loop-expr-preserved t c = more_item _ _ _ _ _ _ _ _ _ _ c.loop-expr-test.true c.loop-expr.invariant c.expr-item.is c.in_ok-close_expr.ensures c.in_ok-push.ensures.ok

pub close_exprs-returns : goal.close_exprs-returns
close_exprs-returns t c = at_end _ _ _ _ _ _ c.loop-expr-test.false c.loop-expr.invariant
