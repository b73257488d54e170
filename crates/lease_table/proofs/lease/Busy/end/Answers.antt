use Rattle.std.proofs.Common.{rules}
use Rattle.lease_table.proofs.Known.{ends_at, IsLease-ended}
use Rattle.lease_table.proofs.lease.Busy.end.Goals as goal

pub fetch_sub-requires : goal.fetch_sub-requires
fetch_sub-requires c = (search rules, search rules, ends_at _ _ _ c.self.invariant.lease c.self.invariant.busy_is)

pub invariant_of-result : goal.invariant_of-result
invariant_of-result c = IsLease-ended _ _ _ _ _ _ c.self.invariant c.fetch_sub.ensures.0 c.fetch_sub.ensures.2
