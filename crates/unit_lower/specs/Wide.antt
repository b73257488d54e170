-- What is wider than 255 words: an expression, a list of parts or arguments, or a result.
use Rattle.std.specs.Prelude.{ℕ, Bool, true, false, ◌||◌, nat_lt}
use Rattle.unit_input.specs.Exprs.{PlainExpr, int, truth, local, field, tuple, unary, binary, call, PlainExprs, no_exprs, exprs}
use Rattle.unit_input.specs.Stmts.{PlainStmt, declare, assign, fork, loop, give, print, assert, eval, PlainStmts, no_stmts, stmts}
use Rattle.unit_input.specs.Widths.{Scope, width, total_width}

abbrev pub is_over : ℕ → Bool
is_over n = nat_lt 255 n

-- an expression that is, or stands in it
abbrev mutual
  pub is_wide : Scope → PlainExpr → Bool
  is_wide s (int v) = false
  is_wide s (truth b) = false
  is_wide s (local n) = is_over (width s (local n))
  is_wide s (field e offset wide) = is_over wide || is_wide s e
  is_wide s (tuple es) = is_over (total_width s es) || are_wide s es
  is_wide s (unary op e) = is_wide s e
  is_wide s (binary op a b) = is_wide s a || is_wide s b
  is_wide s (call k es) = is_over (width s (call k es)) || is_over (total_width s es) || are_wide s es

  pub are_wide : Scope → PlainExprs → Bool
  are_wide s no_exprs = false
  are_wide s (exprs e es) = is_wide s e || are_wide s es

abbrev mutual
  pub is_wide_stmt : Scope → PlainStmt → Bool
  is_wide_stmt s (declare n e) = is_wide s e
  is_wide_stmt s (assign n offset wide e) = is_wide s e
  is_wide_stmt s (fork e a b) = is_wide s e || are_wide_stmts s a || are_wide_stmts s b
  is_wide_stmt s (loop e a) = is_wide s e || are_wide_stmts s a
  is_wide_stmt s (give e) = is_wide s e
  is_wide_stmt s (print e) = is_wide s e
  is_wide_stmt s (assert e) = is_wide s e
  is_wide_stmt s (eval e) = is_wide s e

  pub are_wide_stmts : Scope → PlainStmts → Bool
  are_wide_stmts s no_stmts = false
  are_wide_stmts s (stmts x xs) = is_wide_stmt s x || are_wide_stmts s xs
