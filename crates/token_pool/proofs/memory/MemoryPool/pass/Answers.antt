use Rattle.token_pool.proofs.Known.{forks_at}
use Rattle.token_pool.proofs.memory.MemoryPool.pass.Goals as goal

pub another-pass-requires-clause-rule : goal.another-pass-requires-clause-rule
another-pass-requires-clause-rule c = forks_at _ _ _ _ c.self.invariant.1.own
