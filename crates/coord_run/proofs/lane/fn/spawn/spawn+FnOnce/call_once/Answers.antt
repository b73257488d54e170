use Rattle.std.proofs.Common.{rules}
use Rattle.coord_run.proofs.lane.fn.spawn.spawn+FnOnce.call_once.Goals as goal

pub spawn-requires : goal.spawn-requires
spawn-requires g c = (search rules, (search rules, (search rules, (search rules, (search rules, (search rules, (search rules, (search rules, search rules))))))))
