use Rattle.std.proofs.Common.{Some, ap, ◌∙◌}
use Rattle.lar_assembled.proofs.PartFacts.{there_end, there_missing}
use Rattle.lar_assembled.proofs.parts.each_there.Goals as goal

pub returns-in-None : goal.returns-in-None
returns-in-None c = there_missing c.loop-number.out.items c.args.numbers.now c.loop-number.number-index _ c.loop-number-test.true c.in-None.is c.loop-number.invariant

pub returns : goal.returns
returns c = ap Some c.from_vec.ensures ∙ there_end c.loop-number.out.items c.args.numbers.now c.loop-number.number-index c.loop-number-test.false c.loop-number.invariant
