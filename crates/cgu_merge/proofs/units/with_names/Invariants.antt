use Rattle.std.proofs.Common.{◌≡◌, ◌++◌, length, map}
use Rattle.cgu_merge.specs.Ranked.{plain, shown_by_name, AreInside, finished, named_view}
use Rattle.cgu_merge.proofs.units.with_names.Given as goal

abbrev pub invariant-loop-size : goal.invariant-loop-size
invariant-loop-size l = (map named_view l.named.items ++ map (finished l.names) (map plain (map shown_by_name l.units.entries)) ≡ map (finished l.names) (map plain (map shown_by_name l.initial.units.entries))) × AreInside (length l.names) (map shown_by_name l.units.entries)

abbrev pub decreases-loop-size : goal.decreases-loop-size
decreases-loop-size l = length l.units.entries
