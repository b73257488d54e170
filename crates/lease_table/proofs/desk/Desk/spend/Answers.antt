use Rattle.std.proofs.Common.{rules}
use Rattle.lease_table.proofs.Known.{spends_at, both_sides-known, looks_at}
use Rattle.lease_table.proofs.desk.Desk.spend.Goals as goal

pub join_seat-requires : goal.join_seat-requires
join_seat-requires c = (search rules, search rules, search rules, search rules, spends_at _ _ _ _ c.self.invariant.0.desk c.lease.invariant.lease c.lease.invariant.busy_is)

pub load-requires : goal.load-requires
load-requires c = (search rules, search rules, looks_at _ _ _ _ (both_sides-known _ _ _ c.self.invariant.0.desk c.lease.invariant.lease c.join_seat.ensures.2))
