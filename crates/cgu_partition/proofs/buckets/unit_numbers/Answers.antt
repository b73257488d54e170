use Rattle.cgu_partition.proofs.Numbered.{numbered_all}
use Rattle.cgu_partition.proofs.buckets.unit_numbers.Goals as goal

pub returns : goal.returns
returns c = numbered_all c.args.firsts c.args.units.now c.loop-number.number c.loop-number.numbers.items c.loop-number-test.false c.requires.shared c.loop-number.invariant
