use Rattle.std.proofs.Common.{◌≡◌, ◌+◌, ◌*◌, ◌≤◌, length}
use Rattle.std.specs.Prelude.{reverse}
use Rattle.unit_ir.specs.Cost.{stmt_cost, stmts_cost}
use Rattle.unit_ir.specs.StmtView.{stmt_view, stmts_view}
use Rattle.opt_known.specs.Known.{known_stmts}
use Rattle.opt_known.specs.Walked.{facts_of}
use Rattle.opt_slots.proofs.Ahead.{stmts_before}
use Rattle.opt_known.proofs.stmts.+known.Given as goal

abbrev pub invariant-known_stmts-loop-stmt : goal.invariant-known_stmts-loop-stmt
invariant-known_stmts-loop-stmt l =
    (stmts_cost (stmts_view (reverse l.rest.items)) ≤ stmts_cost (stmts_view l.fn.list))
    × (stmts_before l.known.items (known_stmts (facts_of l.facts) (stmts_view (reverse l.rest.items))) ≡ known_stmts (facts_of l.initial.facts) (stmts_view l.fn.list))

abbrev pub decreases-known_stmts-loop-stmt : goal.decreases-known_stmts-loop-stmt
decreases-known_stmts-loop-stmt l = length l.rest.items

-- a list comes before its statements, and a statement before its parts
abbrev pub decreases-known_stmts : goal.decreases-known_stmts
decreases-known_stmts l = 3 * stmts_cost (stmts_view l.list) + 2

abbrev pub decreases-known_stmt : goal.decreases-known_stmt
decreases-known_stmt l = 3 * stmt_cost (stmt_view l.stmt) + 1

abbrev pub decreases-known_if : goal.decreases-known_if
decreases-known_if l = 3 * (1 + (stmts_cost (stmts_view l.a) + stmts_cost (stmts_view l.b)))

abbrev pub decreases-known_while : goal.decreases-known_while
decreases-known_while l = 3 * (1 + stmts_cost (stmts_view l.a))
