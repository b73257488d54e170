use Rattle.std.proofs.Common.{◌≡◌, ◌++◌, false, length}
use Rattle.lar_source.specs.Code.{filled}
use Rattle.lar_source.proofs.diag.put_text.Given as goal

abbrev pub invariant-loop-left : goal.invariant-loop-left
invariant-loop-left l = l.out ++ filled l.inside l.left l.rest ≡ l.fn.out ++ filled false l.text l.args

abbrev pub decreases-loop-left : goal.decreases-loop-left
decreases-loop-left l = length l.left
