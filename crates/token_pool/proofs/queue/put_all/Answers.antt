use Rattle.token_pool.proofs.Known.{fills_at}
use Rattle.token_pool.proofs.queue.put_all.Goals as goal

pub push_as-requires-clause-rule : goal.push_as-requires-clause-rule
push_as-requires-clause-rule g c = fills_at _ _ _ _ _ c.loop-byte.invariant.2
