-- The slots into which a tree puts words.
use Rattle.std.specs.Prelude.{ℕ, Bool}
use Rattle.unit_ir.specs.Exprs.{PlainExpr, word, load, op1, op2, both, either, call, seq, bind, PlainExprs, no_exprs, exprs}
use Rattle.unit_ir.specs.Stmts.{PlainStmt, store, fork, loop, give, print, eval, PlainStmts, no_stmts, stmts}
use Rattle.opt_slots.specs.Slots.{no_slot, span, also}

-- an expression puts words into slots by its Binds: the value is computed, its words are put, and then comes the rest
abbrev mutual
  pub expr_writes : PlainExpr → ℕ → Bool
  expr_writes (word v) = no_slot
  expr_writes (load s) = no_slot
  expr_writes (op1 o a) = expr_writes a
  expr_writes (op2 o a b) = also (expr_writes a) (expr_writes b)
  expr_writes (both a b) = also (expr_writes a) (expr_writes b)
  expr_writes (either a b) = also (expr_writes a) (expr_writes b)
  expr_writes (call k es) = exprs_writes es
  expr_writes (seq es) = exprs_writes es
  expr_writes (bind s w a b) = also (expr_writes a) (also (span s w) (expr_writes b))

  pub exprs_writes : PlainExprs → ℕ → Bool
  exprs_writes no_exprs = no_slot
  exprs_writes (exprs e es) = also (expr_writes e) (exprs_writes es)

abbrev mutual
  pub stmt_writes : PlainStmt → ℕ → Bool
  stmt_writes (store s w e) = also (expr_writes e) (span s w)
  stmt_writes (fork e a b) = also (expr_writes e) (also (stmts_writes a) (stmts_writes b))
  stmt_writes (loop e a) = also (expr_writes e) (stmts_writes a)
  stmt_writes (give e) = expr_writes e
  stmt_writes (print e) = expr_writes e
  stmt_writes (eval e w) = expr_writes e

  pub stmts_writes : PlainStmts → ℕ → Bool
  stmts_writes no_stmts = no_slot
  stmts_writes (stmts s ss) = also (stmt_writes s) (stmts_writes ss)
