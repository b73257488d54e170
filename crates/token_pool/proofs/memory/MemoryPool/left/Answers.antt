use Rattle.std.proofs.Common.{ℕ, List, sym, subst}
use Rattle.std.specs.List.Sorted.{IsNonDecreasing}
use Rattle.std.proofs.lemmas.List.Sorted.{IsNonDecreasingBy-from_sort}
use Rattle.token_pool.proofs.Draining.{left_all, left_free}
use Rattle.token_pool.proofs.memory.MemoryPool.left.Goals as goal

pub returns-clause-ascending : goal.returns-clause-ascending
returns-clause-ascending g c = subst (λ (left : List ℕ). IsNonDecreasing left) (sym c.from_vec.ensures) (IsNonDecreasingBy-from_sort (λ x. x) _ c.sort_unstable.ensures.sorted)

pub returns-clause-all : goal.returns-clause-all
returns-clause-all g c = left_all _ _ _ _ _ _ _ c.self.invariant.1 c.in_ok-left.ensures c.sort_unstable.ensures.permutation c.from_vec.ensures c.self.view_is

pub returns-clause-free : goal.returns-clause-free
returns-clause-free g c = left_free _ _ _ _ _ _ _ c.self.invariant.1 c.in_ok-left.ensures c.sort_unstable.ensures.permutation c.from_vec.ensures c.self.view_is
