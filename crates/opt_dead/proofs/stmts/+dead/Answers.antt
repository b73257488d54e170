use Rattle.std.proofs.Common.{ap, ◌∙◌, arith}
use Rattle.std.specs.Prelude.{reverse}
use Rattle.unit_ir.specs.StmtView.{stmts_view}
use Rattle.opt_slots.specs.Slots.{slots_of}
use Rattle.opt_slots.proofs.Pushed.{cost_of_last}
use Rattle.opt_dead.proofs.Dropped.{left_before, left_before-none, kept_before}
use Rattle.opt_dead.proofs.stmts.+dead.Goals as goal

pub dead_stmts-dead_stmt-requires : goal.dead_stmts-dead_stmt-requires
dead_stmts-dead_stmt-requires t c =
    (omega (arith, c.decreases, c.loop-last.invariant.0, cost_of_last c.loop-last.list c.pop.new.self c.in-Some.last c.in-Some.ensures), tt)

pub dead_stmts-loop-last-preserved : goal.dead_stmts-loop-last-preserved
dead_stmts-loop-last-preserved t c = (
  omega (arith, c.loop-last.invariant.0, cost_of_last c.loop-last.list c.pop.new.self c.in-Some.last c.in-Some.ensures),
  kept_before (slots_of c.args.loaded.now) c.loop-last.list c.pop.new.self c.in-Some.last c.loop-last.kept.items c.dead_stmt.new.after.items _ c.in-Some.ensures c.in_ok-dead_stmt.ensures c.loop-last.invariant.1,
)

pub dead_stmts-loop-last-init : goal.dead_stmts-loop-last-init
dead_stmts-loop-last-init t c = (
  omega arith,
  ap (λ ss. left_before (slots_of c.args.loaded.now) c.args.list (stmts_view (reverse ss))) c.in_ok-kept.ensures.items ∙ left_before-none (slots_of c.args.loaded.now) c.args.list,
)
