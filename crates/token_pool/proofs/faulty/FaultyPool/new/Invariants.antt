use Rattle.std.proofs.Common.{◌≡◌, ◌≤◌, length, take}
use Rattle.std.specs.VecDeque.{deque_len, deque_capacity}
use Rattle.token_pool.proofs.faulty.FaultyPool.new.Given as goal

abbrev pub invariant-loop-byte : goal.invariant-loop-byte
invariant-loop-byte l = (l.free.items ≡ take l.byte-index l.bytes) × (deque_len l.free ≡ l.byte-index) × (length l.bytes ≤ deque_capacity l.free)
