use Rattle.cgu_copies.proofs.Marks.{row_more}
use Rattle.cgu_copies.proofs.reach_row.Goals as goal

pub loop-target-preserved : goal.loop-target-preserved
loop-target-preserved c = (row_more c.args.homeless.now c.args.mark c.args.row.now c.args.found.now.items c.loop-target.target-index c.loop-target.seen c.loop-target.found.items c.reach_one.new.seen c.reach_one.new.found.items c.loop-target-test.true c.loop-target.invariant.0 c.in_ok-reach_one.ensures.reached, c.in_ok-reach_one.ensures.marks)
