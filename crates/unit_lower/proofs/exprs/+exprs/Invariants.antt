use Rattle.std.proofs.Common.{drop}
use Rattle.unit_input.specs.InputView.{exprs_view}
use Rattle.unit_lower.proofs.ValueLists.{SoFar}
use Rattle.unit_lower.proofs.exprs.+exprs.Given as goal

abbrev pub invariant-values-loop-e : goal.invariant-values-loop-e
invariant-values-loop-e l = SoFar l.scope (exprs_view l.es) l.initial.next l.made l.width l.next (exprs_view (drop l.e-index l.es))
