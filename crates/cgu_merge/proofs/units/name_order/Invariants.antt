use Rattle.std.proofs.Common.{length, map}
use Rattle.cgu_merge.specs.Ranked.{shown, shown_by_name}
use Rattle.cgu_merge.proofs.Placing.{Naming}
use Rattle.cgu_merge.proofs.units.name_order.Given as goal

abbrev pub invariant-loop-size : goal.invariant-loop-size
invariant-loop-size l = Naming (map shown l.initial.units.entries) (map shown l.units.entries) (map shown_by_name l.named.entries)

abbrev pub decreases-loop-size : goal.decreases-loop-size
decreases-loop-size l = length l.units.entries
