use Rattle.std.proofs.Common.{◌≡◌, ◌+◌, ◌*◌, ◌≤◌, length}
use Rattle.std.specs.Prelude.{reverse}
use Rattle.unit_ir.specs.Cost.{stmt_cost, stmts_cost}
use Rattle.unit_ir.specs.StmtView.{stmt_view, stmts_view}
use Rattle.opt_slots.proofs.Ahead.{stmts_before}
use Rattle.opt_inline.specs.Inline.{inlined_stmts, stmts_slots}
use Rattle.opt_inline.specs.SmallView.{smalls_view}
use Rattle.opt_inline.proofs.stmts.+inlined.Given as goal

abbrev pub invariant-inlined_stmts-loop-stmt : goal.invariant-inlined_stmts-loop-stmt
invariant-inlined_stmts-loop-stmt l =
    (stmts_cost (stmts_view (reverse l.rest.items)) ≤ stmts_cost (stmts_view l.fn.list))
    × (stmts_before l.done.items (inlined_stmts (smalls_view l.small) l.slots (stmts_view (reverse l.rest.items))) ≡ inlined_stmts (smalls_view l.small) l.initial.slots (stmts_view l.fn.list))
    × (stmts_slots (smalls_view l.small) l.slots (stmts_view (reverse l.rest.items)) ≡ stmts_slots (smalls_view l.small) l.initial.slots (stmts_view l.fn.list))

abbrev pub decreases-inlined_stmts-loop-stmt : goal.decreases-inlined_stmts-loop-stmt
decreases-inlined_stmts-loop-stmt l = length l.rest.items

-- a list comes before its statements
abbrev pub decreases-inlined_stmts : goal.decreases-inlined_stmts
decreases-inlined_stmts l = 2 * stmts_cost (stmts_view l.list) + 1

abbrev pub decreases-inlined_stmt : goal.decreases-inlined_stmt
decreases-inlined_stmt l = 2 * stmt_cost (stmt_view l.stmt)
