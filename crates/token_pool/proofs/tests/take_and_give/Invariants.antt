use Rattle.std.proofs.Common.{◌≡◌, ℕ}
use Rattle.counting.specs.Count.{times}
use Rattle.token_pool.proofs.tests.take_and_give.Given as goal

abbrev pub invariant-loop : goal.invariant-loop
invariant-loop g l = ((x : ℕ) → times x l.pass.owed ≡ 0) × (l.pass.queue ≡ l.initial.pass.queue)
