use Rattle.std.proofs.Common.{◌≡◌, map, take, get_or}
use Rattle.cgu_partition.proofs.ranks.places_of.Given as goal

abbrev pub invariant-loop-rank : goal.invariant-loop-rank
invariant-loop-rank l = l.places.items ≡ map (λ i. get_or l.order i 0) (take l.rank-index l.ranks)
