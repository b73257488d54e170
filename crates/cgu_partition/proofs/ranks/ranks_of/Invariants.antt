use Rattle.cgu_partition.proofs.Ranked.{Ranking}
use Rattle.cgu_partition.proofs.ranks.ranks_of.Given as goal

abbrev pub invariant-loop-rank : goal.invariant-loop-rank
invariant-loop-rank l = Ranking l.order l.count l.rank l.ranks.items
