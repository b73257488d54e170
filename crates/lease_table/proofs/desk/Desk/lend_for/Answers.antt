use Rattle.std.proofs.Common.{rules, ℕ, ap, ◌∙◌, arith}
use Rattle.counting.specs.Count.{times}
use Rattle.lease_table.specs.Desk.{DeskState, desk_of}
use Rattle.lease_table.specs.Steps.{desk_named}
use Rattle.lease_table.proofs.Known.{names_at, on_desk-known, lends_at}
use Rattle.lease_table.proofs.desk.Desk.lend_for.Goals as goal

pub swap-requires : goal.swap-requires
swap-requires c = (search rules, search rules, names_at _ _ _ _ c.self.invariant.0.desk (ap (λ (k : ℕ). times k (desk_of c.self.inside.seat.me.0).out) c.from.ensures ∙ ap (λ (d : DeskState). times c.args.job d.out) c.self.view_is ∙ c.requires.absent))

pub split_seat-seat-requires : goal.split_seat-seat-requires
split_seat-seat-requires c = let share = ap (λ (d : DeskState). d.share) c.self.view_is in (search rules, search rules, lends_at _ _ _ (on_desk-known (desk_named _) _ _ _ c.self.invariant.0.desk c.swap.ensures.2) (omega arith))
