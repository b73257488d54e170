use Rattle.std.proofs.Common.{arith}
use Rattle.opt_slots.proofs.Pushed.{cost_of_last}
use Rattle.unit_opt.proofs.Lists.{kept_ahead}
use Rattle.unit_opt.proofs.fold_stmts.+fold.Goals as goal

pub fold_ahead-fold_stmt-requires : goal.fold_ahead-fold_stmt-requires
fold_ahead-fold_stmt-requires t c =
    (omega (arith, c.decreases, c.loop-last.invariant.0, cost_of_last c.loop-last.list c.pop.new.self c.in-Some.last c.in-Some.ensures), tt)

pub fold_ahead-loop-last-preserved : goal.fold_ahead-loop-last-preserved
fold_ahead-loop-last-preserved t c = (
  omega (arith, c.loop-last.invariant.0, cost_of_last c.loop-last.list c.pop.new.self c.in-Some.last c.in-Some.ensures),
  kept_ahead c.loop-last.list c.pop.new.self c.in-Some.last c.loop-last.after.items c.fold_stmt.new.after.items _ c.in-Some.ensures c.in_ok-fold_stmt.ensures c.loop-last.invariant.1,
)
