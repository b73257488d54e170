use Rattle.std.proofs.Common.{◌≡◌, drop}
use Rattle.unit_ir.specs.ExprView.{exprs_view}
use Rattle.opt_slots.specs.Loads.{exprs_loads}
use Rattle.opt_slots.specs.Slots.{slots_of, also}
use Rattle.opt_slots.proofs.loads.+exprs.Given as goal

abbrev pub invariant-note_exprs-loop-expr : goal.invariant-note_exprs-loop-expr
invariant-note_exprs-loop-expr l =
    also (slots_of l.loaded) (exprs_loads (exprs_view (drop l.expr-index l.exprs))) ≡ also (slots_of l.initial.loaded) (exprs_loads (exprs_view l.exprs))
