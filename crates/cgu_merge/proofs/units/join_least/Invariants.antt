use Rattle.std.proofs.Common.{length, map}
use Rattle.cgu_merge.specs.Ranked.{shown}
use Rattle.cgu_merge.proofs.Placing.{Merging}
use Rattle.cgu_merge.proofs.units.join_least.Given as goal

abbrev pub invariant-loop-units : goal.invariant-loop-units
invariant-loop-units l = Merging (map shown l.initial.units.entries) l.limit (map shown l.units.entries)

abbrev pub decreases-loop-units : goal.decreases-loop-units
decreases-loop-units l = length l.units.entries
