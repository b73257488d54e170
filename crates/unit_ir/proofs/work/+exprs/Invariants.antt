use Rattle.std.proofs.Common.{◌≡◌, ◌+◌, ◌≤◌, min, drop}
use Rattle.unit_ir.specs.Cost.{exprs_cost}
use Rattle.unit_ir.specs.ExprView.{exprs_view}
use Rattle.unit_ir.proofs.work.+exprs.Given as goal

abbrev pub invariant-with_exprs-loop-expr : goal.invariant-with_exprs-loop-expr
invariant-with_exprs-loop-expr l = (l.total ≤ 4294967295) × (min (l.total + exprs_cost (exprs_view (drop l.expr-index l.exprs))) 4294967295 ≡ min (l.before + exprs_cost (exprs_view l.exprs)) 4294967295)
