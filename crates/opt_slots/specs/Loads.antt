-- The slots that a tree loads.
use Rattle.std.specs.Prelude.{ℕ, Bool}
use Rattle.unit_ir.specs.Exprs.{PlainExpr, word, load, op1, op2, both, either, call, seq, bind, PlainExprs, no_exprs, exprs}
use Rattle.unit_ir.specs.Stmts.{PlainStmt, store, fork, loop, give, print, eval, PlainStmts, no_stmts, stmts}
use Rattle.opt_slots.specs.Slots.{no_slot, only, also}

abbrev mutual
  pub expr_loads : PlainExpr → ℕ → Bool
  expr_loads (word v) = no_slot
  expr_loads (load s) = only s
  expr_loads (op1 o a) = expr_loads a
  expr_loads (op2 o a b) = also (expr_loads a) (expr_loads b)
  expr_loads (both a b) = also (expr_loads a) (expr_loads b)
  expr_loads (either a b) = also (expr_loads a) (expr_loads b)
  expr_loads (call k es) = exprs_loads es
  expr_loads (seq es) = exprs_loads es
  expr_loads (bind s w a b) = also (expr_loads a) (expr_loads b)

  pub exprs_loads : PlainExprs → ℕ → Bool
  exprs_loads no_exprs = no_slot
  exprs_loads (exprs e es) = also (expr_loads e) (exprs_loads es)

abbrev mutual
  pub stmt_loads : PlainStmt → ℕ → Bool
  stmt_loads (store s w e) = expr_loads e
  stmt_loads (fork e a b) = also (expr_loads e) (also (stmts_loads a) (stmts_loads b))
  stmt_loads (loop e a) = also (expr_loads e) (stmts_loads a)
  stmt_loads (give e) = expr_loads e
  stmt_loads (print e) = expr_loads e
  stmt_loads (eval e w) = expr_loads e

  pub stmts_loads : PlainStmts → ℕ → Bool
  stmts_loads no_stmts = no_slot
  stmts_loads (stmts s ss) = also (stmt_loads s) (stmts_loads ss)
