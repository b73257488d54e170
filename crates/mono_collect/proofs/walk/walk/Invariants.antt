use Rattle.std.proofs.Common.{◌≤◌, ◌-◌, length}
use Rattle.type_sizes.specs.Sizes.{AreSizes}
use Rattle.mono_collect.proofs.Walked.{Walking}
use Rattle.mono_collect.proofs.walk.walk.Given as goal

abbrev pub invariant-loop-member : goal.invariant-loop-member
invariant-loop-member l = record { walking : Walking l.initial.tree l.tree l.limit l.member l.found l.callees.items; count : length l.sizes.items ≤ length l.tree.rows; sizes : AreSizes l.tree.rows l.sizes.items }

abbrev pub decreases-loop-member : goal.decreases-loop-member
decreases-loop-member l = l.limit - l.member
