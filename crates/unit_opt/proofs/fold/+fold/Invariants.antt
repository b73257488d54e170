use Rattle.std.proofs.Common.{◌≡◌, ◌++◌, map, length}
use Rattle.std.specs.Prelude.{reverse}
use Rattle.unit_ir.specs.ExprView.{expr_view}
use Rattle.unit_opt.proofs.Folds.{folded_view}
use Rattle.unit_opt.proofs.fold.+fold.Given as goal

abbrev pub invariant-fold_exprs-loop-last : goal.invariant-fold_exprs-loop-last
invariant-fold_exprs-loop-last l = goal.no_deeper-fold_exprs-loop-last l × (map folded_view l.parts ++ map expr_view (reverse l.folded.items) ≡ map folded_view l.initial.parts)

abbrev pub decreases-fold_exprs-loop-last : goal.decreases-fold_exprs-loop-last
decreases-fold_exprs-loop-last l = length l.parts
