use Rattle.token_pool.proofs.Known.{pass_took, pass_empty}
use Rattle.token_pool.proofs.pass.PoolPassTokenPool.try_take.Goals.{in-Some, in-None}
use Rattle.token_pool.proofs.pass.PoolPassTokenPool.try_take.Goals as goal

pub returns-clause-told : goal.returns-clause-told
returns-clause-told g c = elim c.match-take_byte.branch [
  | in-Some w ↦ pass_took _ _ _ _ _ _ _ w.result-is c.self.invariant.1 w.in-Some.ensures.rule c.self.view_is
  | in-None w ↦ pass_empty _ _ _ _ _ w.result-is w.in-None.ensures.rule.0 c.self.view_is
]
