use Rattle.crossbeam_queue.specs.Passes.{view, IsPassOf}
use Rattle.token_pool.proofs.Draining.{Drained}
use Rattle.token_pool.proofs.memory.emptied.Given as goal

abbrev pub invariant-loop : goal.invariant-loop
invariant-loop g l = IsPassOf l.queue l.pass × Drained (view l.initial.pass) (view l.pass) l.bytes.items
