use Rattle.std.proofs.Common.{rules, ◌∙◌}
use Rattle.lease_table.proofs.Known.{stands_at, IsLease-alone}
use Rattle.lease_table.proofs.lease.Busy.alone.Goals as goal

pub fetch_add-requires : goal.fetch_add-requires
fetch_add-requires c = (search rules, search rules, stands_at _ _ _ c.in_ok-table.ensures.2)

pub invariant_of-result : goal.invariant_of-result
invariant_of-result c = (IsLease-alone _ _ _ _ c.in_ok-table.ensures.0 (c.fetch_add.ensures.0 ∙ c.in_ok-table.ensures.1) c.in_ok-table.ensures.2 c.fetch_add.ensures.2).0
