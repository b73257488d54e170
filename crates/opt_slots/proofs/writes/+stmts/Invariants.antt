use Rattle.std.proofs.Common.{◌≡◌, drop}
use Rattle.unit_ir.specs.StmtView.{stmts_view}
use Rattle.opt_slots.specs.Writes.{stmts_writes}
use Rattle.opt_slots.specs.Slots.{slots_of, also}
use Rattle.opt_slots.proofs.writes.+stmts.Given as goal

abbrev pub invariant-note_writes-loop-stmt : goal.invariant-note_writes-loop-stmt
invariant-note_writes-loop-stmt l =
    also (slots_of l.written) (stmts_writes (stmts_view (drop l.stmt-index l.stmts))) ≡ also (slots_of l.initial.written) (stmts_writes (stmts_view l.stmts))
