use Rattle.std.proofs.Common.{◌≡◌, ◌+◌, ◌≤◌, min, drop}
use Rattle.lar_typed.specs.Size.{exprs_size}
use Rattle.lar_typed.specs.ExprView.{exprs_view}
use Rattle.mono_bodies.proofs.sizes.+exprs.Given as goal

abbrev pub invariant-with_exprs-loop-expr : goal.invariant-with_exprs-loop-expr
invariant-with_exprs-loop-expr l = (l.total ≤ 4294967295) × (min (l.total + exprs_size (exprs_view (drop l.expr-index l.exprs))) 4294967295 ≡ min (l.before + exprs_size (exprs_view l.exprs)) 4294967295)
