use Rattle.std.proofs.Common.{◌≡◌}
use Rattle.lease_table.proofs.tests.begin_and_end.Given as goal

abbrev pub invariant-loop : goal.invariant-loop
invariant-loop l = l.lease.table ≡ l.initial.lease.table
