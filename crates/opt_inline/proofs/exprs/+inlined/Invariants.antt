use Rattle.std.proofs.Common.{◌≡◌, ◌+◌, ◌*◌, ◌≤◌, length}
use Rattle.std.specs.Prelude.{reverse}
use Rattle.unit_ir.specs.Cost.{expr_cost, exprs_cost}
use Rattle.unit_ir.specs.ExprView.{expr_view, exprs_view}
use Rattle.opt_slots.proofs.Ahead.{exprs_before}
use Rattle.opt_inline.specs.Inline.{inlined_exprs, exprs_slots}
use Rattle.opt_inline.specs.SmallView.{smalls_view}
use Rattle.opt_inline.proofs.exprs.+inlined.Given as goal

abbrev pub invariant-inlined_exprs-loop-part : goal.invariant-inlined_exprs-loop-part
invariant-inlined_exprs-loop-part l =
    (exprs_cost (exprs_view (reverse l.rest.items)) ≤ exprs_cost (exprs_view l.fn.parts))
    × (exprs_before l.done.items (inlined_exprs (smalls_view l.small) l.slots (exprs_view (reverse l.rest.items))) ≡ inlined_exprs (smalls_view l.small) l.initial.slots (exprs_view l.fn.parts))
    × (exprs_slots (smalls_view l.small) l.slots (exprs_view (reverse l.rest.items)) ≡ exprs_slots (smalls_view l.small) l.initial.slots (exprs_view l.fn.parts))

abbrev pub decreases-inlined_exprs-loop-part : goal.decreases-inlined_exprs-loop-part
decreases-inlined_exprs-loop-part l = length l.rest.items

-- a list comes before its parts
abbrev pub decreases-inlined_exprs : goal.decreases-inlined_exprs
decreases-inlined_exprs l = 2 * exprs_cost (exprs_view l.parts) + 1

abbrev pub decreases-inlined_expr : goal.decreases-inlined_expr
decreases-inlined_expr l = 2 * expr_cost (expr_view l.e)
