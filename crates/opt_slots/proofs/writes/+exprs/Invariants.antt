use Rattle.std.proofs.Common.{◌≡◌, drop}
use Rattle.unit_ir.specs.ExprView.{exprs_view}
use Rattle.opt_slots.specs.Writes.{exprs_writes}
use Rattle.opt_slots.specs.Slots.{slots_of, also}
use Rattle.opt_slots.proofs.writes.+exprs.Given as goal

abbrev pub invariant-note_exprs_writes-loop-expr : goal.invariant-note_exprs_writes-loop-expr
invariant-note_exprs_writes-loop-expr l =
    also (slots_of l.written) (exprs_writes (exprs_view (drop l.expr-index l.exprs))) ≡ also (slots_of l.initial.written) (exprs_writes (exprs_view l.exprs))
