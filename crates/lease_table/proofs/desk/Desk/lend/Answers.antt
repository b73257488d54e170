use Rattle.std.proofs.Common.{rules, ap, arith}
use Rattle.lease_table.specs.Desk.{DeskState}
use Rattle.lease_table.proofs.Known.{lends_at}
use Rattle.lease_table.proofs.desk.Desk.lend.Goals as goal

pub split_seat-seat-requires : goal.split_seat-seat-requires
split_seat-seat-requires c = let share = ap (λ (d : DeskState). d.share) c.self.view_is in (search rules, search rules, lends_at _ _ _ c.self.invariant.0.desk (omega arith))
