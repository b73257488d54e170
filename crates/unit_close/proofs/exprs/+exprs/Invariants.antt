use Rattle.std.proofs.Common.{drop}
use Rattle.lar_typed.specs.ExprView.{exprs_view}
use Rattle.unit_close.specs.Sight.{sight}
use Rattle.unit_close.proofs.ExprLists.{SoFar}
use Rattle.unit_close.proofs.exprs.+exprs.Given as goal

abbrev pub invariant-close_exprs-loop-expr : goal.invariant-close_exprs-loop-expr
invariant-close_exprs-loop-expr l = SoFar (sight l.around) l.initial.next (exprs_view l.exprs) l.made l.next (exprs_view (drop l.expr-index l.exprs))
