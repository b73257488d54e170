use Rattle.std.proofs.Common.{◌≡◌, ◌+◌, ◌*◌, ◌≤◌, length}
use Rattle.std.specs.Prelude.{reverse}
use Rattle.unit_ir.specs.Cost.{stmt_cost, stmts_cost}
use Rattle.unit_ir.specs.StmtView.{stmt_view, stmts_view}
use Rattle.unit_opt.specs.Fold.{fold_each}
use Rattle.unit_opt.specs.Lists.{ahead}
use Rattle.unit_opt.proofs.fold_stmts.+fold.Given as goal

abbrev pub invariant-fold_ahead-loop-last : goal.invariant-fold_ahead-loop-last
invariant-fold_ahead-loop-last l =
    (stmts_cost (stmts_view l.list) ≤ stmts_cost (stmts_view l.initial.list)) × (ahead (fold_each (stmts_view l.list)) (stmts_view (reverse l.after.items)) ≡ ahead (fold_each (stmts_view l.initial.list)) (stmts_view (reverse l.initial.after.items)))

abbrev pub decreases-fold_ahead-loop-last : goal.decreases-fold_ahead-loop-last
decreases-fold_ahead-loop-last l = length l.list

-- a list comes before its statements
abbrev pub decreases-fold_ahead : goal.decreases-fold_ahead
decreases-fold_ahead l = 2 * stmts_cost (stmts_view l.list) + 1

abbrev pub decreases-fold_stmt : goal.decreases-fold_stmt
decreases-fold_stmt l = 2 * stmt_cost (stmt_view l.stmt)
