use Rattle.std.proofs.Common.{◌≡◌, ◌+◌}
use Rattle.lease_table.proofs.tests.fill.Given as goal

abbrev pub invariant-loop-count : goal.invariant-loop-count
invariant-loop-count l = (l.desk.held ≡ l.count) × (l.desk.share ≡ l.initial.desk.share + l.count)
