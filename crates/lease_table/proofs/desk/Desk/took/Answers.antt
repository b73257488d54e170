use Rattle.std.proofs.Common.{rules, ap, arith}
use Rattle.lease_table.specs.Desk.{DeskState}
use Rattle.lease_table.proofs.Known.{takes_at}
use Rattle.lease_table.proofs.desk.Desk.took.Goals as goal

pub fetch_add-requires : goal.fetch_add-requires
fetch_add-requires c = let room = ap (λ (d : DeskState). d.held) c.self.view_is in (search rules, search rules, takes_at _ _ _ c.self.invariant.0.desk (omega arith))
