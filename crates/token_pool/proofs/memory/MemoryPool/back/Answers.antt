use Rattle.std.proofs.Common.{ap, ◌∙◌}
use Rattle.counting.specs.Count.{times}
use Rattle.token_pool.specs.Memory.{PassState}
use Rattle.token_pool.proofs.Known.{merges_at, times-none}
use Rattle.token_pool.proofs.memory.MemoryPool.back.Goals as goal

pub absorb-requires-clause-rule : goal.absorb-requires-clause-rule
absorb-requires-clause-rule c = merges_at _ _ _ _ _ _ _ c.self.invariant.1.own c.pass.invariant.1.out (times-none _ (λ x. ap (λ (s : PassState). times x s.owed) c.pass.view_is ∙ c.requires.settled x))
