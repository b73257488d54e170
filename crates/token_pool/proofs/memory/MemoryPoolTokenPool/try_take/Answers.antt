use Rattle.token_pool.proofs.Known.{memory_took, memory_empty}
use Rattle.token_pool.proofs.memory.MemoryPoolTokenPool.try_take.Goals.{in-Some, in-None}
use Rattle.token_pool.proofs.memory.MemoryPoolTokenPool.try_take.Goals as goal

pub returns-clause-told : goal.returns-clause-told
returns-clause-told g c = elim c.match-take_byte.branch [
  | in-Some w ↦ memory_took _ _ _ _ _ _ _ w.result-is c.self.invariant.1 w.in-Some.ensures.rule c.self.view_is
  | in-None w ↦ memory_empty _ _ _ _ _ _ w.result-is c.self.invariant.1 w.in-None.ensures.rule.0 w.in-None.ensures.rule.1 c.self.view_is
]
