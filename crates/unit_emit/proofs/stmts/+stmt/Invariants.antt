use Rattle.std.proofs.Common.{List, ℕ, drop}
use Rattle.unit_ir.specs.StmtView.{stmts_view}
use Rattle.unit_emit.specs.Code.{Emits, stmts_code}
use Rattle.unit_emit.proofs.stmts.+stmt.Given as goal

abbrev pub invariant-emit_stmts-loop-stmt : goal.invariant-emit_stmts-loop-stmt
invariant-emit_stmts-loop-stmt l = (now : List ℕ) → Emits l.code.items (stmts_code (stmts_view (drop l.stmt-index l.stmts))) now → Emits l.initial.code.items (stmts_code (stmts_view l.stmts)) now
