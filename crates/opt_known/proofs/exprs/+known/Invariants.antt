use Rattle.std.proofs.Common.{◌≡◌, ◌+◌, ◌*◌, ◌≤◌, length}
use Rattle.std.specs.Prelude.{reverse}
use Rattle.unit_ir.specs.Cost.{expr_cost, exprs_cost}
use Rattle.unit_ir.specs.ExprView.{expr_view, exprs_view}
use Rattle.opt_slots.specs.Writes.{exprs_writes}
use Rattle.opt_known.specs.Facts.{forget}
use Rattle.opt_known.specs.Known.{known_exprs}
use Rattle.opt_known.specs.Walked.{facts_of}
use Rattle.opt_slots.proofs.Ahead.{exprs_before}
use Rattle.opt_known.proofs.exprs.+known.Given as goal

abbrev pub invariant-known_exprs-loop-part : goal.invariant-known_exprs-loop-part
invariant-known_exprs-loop-part l =
    (exprs_cost (exprs_view (reverse l.rest.items)) ≤ exprs_cost (exprs_view l.fn.parts))
    × (exprs_before l.known.items (known_exprs (facts_of l.facts) (exprs_view (reverse l.rest.items))) ≡ known_exprs (facts_of l.initial.facts) (exprs_view l.fn.parts))
    × (forget (exprs_writes (exprs_view (reverse l.rest.items))) (facts_of l.facts) ≡ forget (exprs_writes (exprs_view l.fn.parts)) (facts_of l.initial.facts))

abbrev pub decreases-known_exprs-loop-part : goal.decreases-known_exprs-loop-part
decreases-known_exprs-loop-part l = length l.rest.items

-- a list comes before its parts
abbrev pub decreases-known_exprs : goal.decreases-known_exprs
decreases-known_exprs l = 2 * exprs_cost (exprs_view l.parts) + 1

abbrev pub decreases-known_expr : goal.decreases-known_expr
decreases-known_expr l = 2 * expr_cost (expr_view l.e)
