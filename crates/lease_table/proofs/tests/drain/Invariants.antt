use Rattle.std.proofs.Common.{◌≡◌, ◌+◌}
use Rattle.lease_table.proofs.tests.drain.Given as goal

abbrev pub invariant-loop-count : goal.invariant-loop-count
invariant-loop-count l = (l.desk.held + l.count ≡ 63) × (l.desk.share + l.count ≡ 64)
