use Rattle.std.proofs.Common.{refl}
use Rattle.cgu_partition.proofs.Ranked.{ranking_more}
use Rattle.cgu_partition.proofs.ranks.ranks_of.Goals as goal

pub loop-rank-preserved : goal.loop-rank-preserved
loop-rank-preserved c = ranking_more c.args.order.now c.args.count c.loop-rank.rank c.loop-rank.ranks.items _ c.requires.once c.requires.inside c.loop-rank-test.true c.loop-rank.invariant refl
