use Rattle.std.proofs.Common.{◌≡◌}
use Rattle.lease_table.proofs.tests.take_and_give.Given as goal

abbrev pub invariant-loop : goal.invariant-loop
invariant-loop l = (l.desk.held ≡ 0) × (l.desk.share ≡ 0) × (l.desk.table ≡ l.initial.desk.table)
