use Rattle.cgu_partition.proofs.Owned.{Sizing}
use Rattle.cgu_partition.proofs.homes.home_sizes.Given as goal

abbrev pub invariant-loop-place : goal.invariant-loop-place
invariant-loop-place l = Sizing l.names l.items l.place l.sizes.items
