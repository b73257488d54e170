use Rattle.std.proofs.Common.{◌≡◌, ◌-◌, length, drop}
use Rattle.lar_rules.specs.Fault.{least}
use Rattle.lar_rules.specs.Written.{Site}
use Rattle.lar_judge.specs.Here.{IsHere}
use Rattle.lar_judge.specs.Lists.{knowns}
use Rattle.lar_judge.specs.Wanted.{types_if, misfits}
use Rattle.lar_judge.proofs.passing.all_misfits.Given as goal

abbrev pub invariant-loop-n : goal.invariant-loop-n
invariant-loop-n l = (s : Site) → IsHere l.here s → least l.first (misfits s (types_if l.types (drop l.n l.wanted)) (knowns l.types (drop l.n l.parts))) ≡ least l.fn.first (misfits s (types_if l.types l.wanted) (knowns l.types l.parts))

abbrev pub decreases-loop-n : goal.decreases-loop-n
decreases-loop-n l = length l.wanted - l.n
