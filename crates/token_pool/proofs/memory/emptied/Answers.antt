use Rattle.std.proofs.Common.{rules}
use Rattle.token_pool.proofs.Draining.{Drained-push}
use Rattle.token_pool.proofs.memory.emptied.Goals as goal

pub loop-preserved : goal.loop-preserved
loop-preserved g c = (search rules, Drained-push _ _ _ _ _ _ c.loop.invariant.1 c.in-Some-take_byte.ensures.rule c.in_ok-push-in-Some-take_byte.ensures.items)
