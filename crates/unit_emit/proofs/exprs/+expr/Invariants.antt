use Rattle.std.proofs.Common.{List, ℕ, drop}
use Rattle.unit_ir.specs.ExprView.{exprs_view}
use Rattle.unit_emit.specs.Code.{Emits, exprs_code}
use Rattle.unit_emit.proofs.exprs.+expr.Given as goal

abbrev pub invariant-emit_exprs-loop-expr : goal.invariant-emit_exprs-loop-expr
invariant-emit_exprs-loop-expr l = (now : List ℕ) → Emits l.code.items (exprs_code (exprs_view (drop l.expr-index l.exprs))) now → Emits l.initial.code.items (exprs_code (exprs_view l.exprs)) now
