use Rattle.std.proofs.Common.{◌≡◌, ◌≤◌, length, take}
use Rattle.crossbeam_queue.specs.Passes.{view, IsSamePass, IsPassOf, ruled_capacity}
use Rattle.token_pool.specs.Steps.{filled}
use Rattle.token_pool.proofs.queue.put_all.Given as goal

abbrev pub invariant-loop-byte : goal.invariant-loop-byte
invariant-loop-byte g l = IsPassOf l.queue l.pass × IsSamePass l.initial.pass l.pass × (view l.pass ≡ filled (take l.byte-index l.bytes)) × (length l.bytes ≤ ruled_capacity l.queue)
