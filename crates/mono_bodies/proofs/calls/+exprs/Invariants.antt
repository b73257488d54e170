use Rattle.std.proofs.Common.{◌≡◌, ◌++◌, map, drop}
use Rattle.lar_typed.specs.Calls.{exprs_calls}
use Rattle.lar_typed.specs.ExprView.{exprs_view}
use Rattle.mono_bodies.specs.Patterns.{call_view}
use Rattle.mono_bodies.proofs.calls.+exprs.Given as goal

abbrev pub invariant-take_exprs-loop-expr : goal.invariant-take_exprs-loop-expr
invariant-take_exprs-loop-expr l = map call_view l.calls.items ++ exprs_calls (exprs_view (drop l.expr-index l.exprs)) ≡ map call_view l.initial.calls.items ++ exprs_calls (exprs_view l.exprs)
