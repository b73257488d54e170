use Rattle.std.proofs.Common.{◌≡◌, ◌+◌, ◌*◌, ◌≤◌, length}
use Rattle.std.specs.Prelude.{reverse}
use Rattle.unit_ir.specs.Cost.{stmt_cost, stmts_cost}
use Rattle.unit_ir.specs.StmtView.{stmt_view, stmts_view}
use Rattle.opt_slots.specs.Slots.{slots_of}
use Rattle.opt_dead.specs.Dead.{dead_stmts}
use Rattle.opt_dead.proofs.Dropped.{left_before}
use Rattle.opt_dead.proofs.stmts.+dead.Given as goal

abbrev pub invariant-dead_stmts-loop-last : goal.invariant-dead_stmts-loop-last
invariant-dead_stmts-loop-last l =
    (stmts_cost (stmts_view l.list) ≤ stmts_cost (stmts_view l.initial.list)) × (left_before (slots_of l.loaded) l.list (stmts_view (reverse l.kept.items)) ≡ dead_stmts (slots_of l.loaded) (stmts_view l.initial.list))

abbrev pub decreases-dead_stmts-loop-last : goal.decreases-dead_stmts-loop-last
decreases-dead_stmts-loop-last l = length l.list

-- a list comes before its statements
abbrev pub decreases-dead_stmts : goal.decreases-dead_stmts
decreases-dead_stmts l = 2 * stmts_cost (stmts_view l.list) + 1

abbrev pub decreases-dead_stmt : goal.decreases-dead_stmt
decreases-dead_stmt l = 2 * stmt_cost (stmt_view l.stmt)
