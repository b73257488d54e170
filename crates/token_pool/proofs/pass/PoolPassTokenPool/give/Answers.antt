use Rattle.std.proofs.Common.{◌≤◌, sym, subst}
use Rattle.counting.specs.Count.{times}
use Rattle.token_pool.specs.Memory.{PassState}
use Rattle.token_pool.proofs.Known.{pass_gave}
use Rattle.token_pool.proofs.pass.PoolPassTokenPool.give.Goals as goal

pub returns-clause-told : goal.returns-clause-told
returns-clause-told g c = pass_gave _ _ _ _ _ _ c.self.invariant.1 (subst (λ (s : PassState). 1 ≤ times c.args.byte s.owed) (sym c.self.view_is) c.requires) c.give_byte.ensures.rule c.self.view_is
