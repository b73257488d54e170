use Rattle.std.proofs.Common.{◌≡◌, drop}
use Rattle.lar_judge.specs.Lists.{knowns}
use Rattle.lar_judge.specs.Wanted.{types_if, fits_all}
use Rattle.lar_judge.proofs.passing.all_fit.Given as goal

abbrev pub invariant-loop-n : goal.invariant-loop-n
invariant-loop-n l = fits_all (types_if l.types (drop l.n l.wanted)) (knowns l.types (drop l.n l.parts)) ≡ fits_all (types_if l.types l.wanted) (knowns l.types l.parts)
