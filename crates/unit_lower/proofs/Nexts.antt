-- Lowering takes fresh slots and gives none back.
use Rattle.std.proofs.Common.{◌≡◌, ℕ, ◌+◌, ◌≤◌, Option, Some, None, arith}
use Rattle.unit_input.specs.Exprs as input
use Rattle.unit_input.specs.Stmts as input_stmt
use Rattle.unit_input.specs.Widths.{Scope, width}
use Rattle.unit_ir.specs.Exprs.{PlainExpr}
use Rattle.unit_lower.specs.Slots.{place}
use Rattle.unit_lower.specs.Lowering.{Lowered, part_of, lower, lower_all, lower_stmt, lower_stmts}

part_next : (offset wide whole : ℕ) (at : Option ℕ) (k : ℕ) (x : Lowered PlainExpr) → k ≤ x.next → k ≤ (part_of offset wide whole at k x).next
part_next offset wide whole None k x le = omega (arith, le)
part_next offset wide whole (Some slot) k x le = omega arith

mutual
  pub next_up : (s : Scope) (e : input.PlainExpr) (k : ℕ) → k ≤ (lower s e k).next
  next_up s (input.int v) k = omega arith
  next_up s (input.truth b) k = omega arith
  next_up s (input.local n) k = omega arith
  next_up s (input.field e offset wide) k = part_next offset wide (width s e) (place s e) k (lower s e k) (next_up s e k)
  next_up s (input.tuple es) k = nexts_up s es k
  next_up s (input.unary op e) k = next_up s e k
  next_up s (input.binary op a b) k = omega (arith, next_up s a k, next_up s b (lower s a k).next)
  next_up s (input.call f es) k = nexts_up s es k

  pub nexts_up : (s : Scope) (es : input.PlainExprs) (k : ℕ) → k ≤ (lower_all s es k).next
  nexts_up s input.no_exprs k = omega arith
  nexts_up s (input.exprs e es) k = omega (arith, next_up s e k, nexts_up s es (lower s e k).next)

mutual
  pub stmt_next_up : (s : Scope) (x : input_stmt.PlainStmt) (k : ℕ) → k ≤ (lower_stmt s x k).next
  stmt_next_up s (input_stmt.declare n e) k = next_up s e k
  stmt_next_up s (input_stmt.assign n offset wide e) k = next_up s e k
  stmt_next_up s (input_stmt.fork e a b) k = omega (arith, next_up s e k, stmts_next_up s a (lower s e k).next, stmts_next_up s b (lower_stmts s a (lower s e k).next).next)
  stmt_next_up s (input_stmt.loop e a) k = omega (arith, next_up s e k, stmts_next_up s a (lower s e k).next)
  stmt_next_up s (input_stmt.give e) k = next_up s e k
  stmt_next_up s (input_stmt.print e) k = next_up s e k
  stmt_next_up s (input_stmt.assert e) k = omega arith
  stmt_next_up s (input_stmt.eval e) k = next_up s e k

  pub stmts_next_up : (s : Scope) (xs : input_stmt.PlainStmts) (k : ℕ) → k ≤ (lower_stmts s xs k).next
  stmts_next_up s input_stmt.no_stmts k = omega arith
  stmts_next_up s (input_stmt.stmts x xs) k = omega (arith, stmt_next_up s x k, stmts_next_up s xs (lower_stmt s x k).next)
