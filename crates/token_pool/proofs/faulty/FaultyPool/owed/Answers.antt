use Rattle.std.proofs.Common.{arith}
use Rattle.counting.proofs.Count.{times-count_by}
use Rattle.token_pool.proofs.faulty.FaultyPool.owed.Goals as goal

pub returns : goal.returns
returns c =
    let made = times-count_by c.args.byte c.args.self.now.bytes in
    let free = times-count_by c.args.byte c.args.self.now.free in
    let m = c.made.ensures in
    let f = c.free.ensures in
    let s = c.saturating_sub.ensures in
    omega arith
