use Rattle.std.proofs.Common.{rules}
use Rattle.lease_table.proofs.Known.{begins_at, IsLease-begun}
use Rattle.lease_table.proofs.lease.Lease.begin.Goals as goal

pub fetch_add-word-requires : goal.fetch_add-word-requires
fetch_add-word-requires c = (search rules, search rules, begins_at _ _ _ c.self.invariant.lease c.self.invariant.busy_is)

pub invariant_of-busy : goal.invariant_of-busy
invariant_of-busy c = IsLease-begun _ _ _ _ _ _ _ c.self.invariant c.fetch_add-word.ensures.0 c.fetch_add-word.ensures.2.5
