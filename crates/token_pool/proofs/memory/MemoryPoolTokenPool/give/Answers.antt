use Rattle.std.proofs.Common.{rules, ◌≤◌, sym, subst}
use Rattle.counting.specs.Count.{times}
use Rattle.token_pool.specs.Memory.{MemoryState}
use Rattle.token_pool.proofs.Known.{IsPool-gave, memory_gave}
use Rattle.token_pool.proofs.memory.MemoryPoolTokenPool.give.Goals as goal

pub invariant_of-self : goal.invariant_of-self
invariant_of-self g c = (search rules, IsPool-gave _ _ _ _ c.self.invariant.1 (subst (λ (s : MemoryState). 1 ≤ times c.args.byte s.owed) (sym c.self.view_is) c.requires) c.give_byte.ensures.rule)

pub returns-clause-told : goal.returns-clause-told
returns-clause-told g c = memory_gave _ _ _ _ _ _ c.self.invariant.1 (subst (λ (s : MemoryState). 1 ≤ times c.args.byte s.owed) (sym c.self.view_is) c.requires) c.give_byte.ensures.rule c.self.view_is
