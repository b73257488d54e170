use Rattle.std.proofs.Common.{rules, ap, arith}
use Rattle.lease_table.specs.Desk.{DeskState}
use Rattle.lease_table.proofs.Known.{gives_at}
use Rattle.lease_table.proofs.desk.Desk.gave.Goals as goal

pub fetch_sub-requires : goal.fetch_sub-requires
fetch_sub-requires c = let held = ap (λ (d : DeskState). d.held) c.self.view_is in let share = ap (λ (d : DeskState). d.share) c.self.view_is in
    (search rules, search rules, gives_at _ _ _ c.self.invariant.0.desk (omega arith) (omega arith))
