use Rattle.cgu_partition.proofs.Numbered.{Numbered}
use Rattle.cgu_partition.proofs.buckets.unit_numbers.Given as goal

abbrev pub invariant-loop-number : goal.invariant-loop-number
invariant-loop-number l = Numbered l.firsts l.units l.number l.numbers.items
