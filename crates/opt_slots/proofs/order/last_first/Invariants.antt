use Rattle.std.proofs.Common.{◌≡◌, ◌++◌, length}
use Rattle.std.specs.Prelude.{reverse}
use Rattle.opt_slots.proofs.order.last_first.Given as goal

abbrev pub invariant-loop-last : goal.invariant-loop-last
invariant-loop-last g l = l.turned.items ++ reverse l.list ≡ reverse l.initial.list

abbrev pub decreases-loop-last : goal.decreases-loop-last
decreases-loop-last g l = length l.list
