use Rattle.std.proofs.Common.{◌≡◌, ◌++◌, map, length}
use Rattle.std.specs.Prelude.{reverse}
use Rattle.unit_ir.specs.Units.{fn_view}
use Rattle.unit_opt.proofs.Folds.{folded_fn}
use Rattle.unit_opt.proofs.functions.fold_fns.Given as goal

abbrev pub invariant-loop-last : goal.invariant-loop-last
invariant-loop-last l = map folded_fn l.functions ++ map fn_view (reverse l.folded.items) ≡ map folded_fn l.initial.functions

abbrev pub decreases-loop-last : goal.decreases-loop-last
decreases-loop-last l = length l.functions
