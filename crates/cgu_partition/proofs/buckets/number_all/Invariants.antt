use Rattle.cgu_partition.proofs.Numbered.{Numbering}
use Rattle.cgu_partition.proofs.buckets.number_all.Given as goal

abbrev pub invariant-loop-place : goal.invariant-loop-place
invariant-loop-place l = Numbering l.places l.number l.initial.numbers l.place-index l.numbers
