use Rattle.cgu_partition.proofs.Owned.{Owners}
use Rattle.cgu_partition.proofs.homes.owners_of.Given as goal

abbrev pub invariant-loop-item : goal.invariant-loop-item
invariant-loop-item l = Owners l.names l.items l.item-index l.owners.items
