use Rattle.cgu_partition.proofs.Numbered.{Filling}
use Rattle.cgu_partition.proofs.buckets.distribute.Given as goal

abbrev pub invariant-loop-place : goal.invariant-loop-place
invariant-loop-place l = Filling l.order l.owners l.numbers l.place-index l.homes
