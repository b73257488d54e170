use Rattle.std.proofs.Common.{◌≡◌, drop}
use Rattle.unit_ir.specs.StmtView.{stmts_view}
use Rattle.opt_slots.specs.Loads.{stmts_loads}
use Rattle.opt_slots.specs.Slots.{slots_of, also}
use Rattle.opt_slots.proofs.loads.+stmts.Given as goal

abbrev pub invariant-note_loads-loop-stmt : goal.invariant-note_loads-loop-stmt
invariant-note_loads-loop-stmt l =
    also (slots_of l.loaded) (stmts_loads (stmts_view (drop l.stmt-index l.stmts))) ≡ also (slots_of l.initial.loaded) (stmts_loads (stmts_view l.stmts))
