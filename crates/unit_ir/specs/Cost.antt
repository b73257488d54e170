-- How many statements and expressions a tree has.
use Rattle.std.specs.Prelude.{ℕ, ◌+◌, List, [], ◌∷◌}
use Rattle.unit_ir.specs.Exprs.{PlainExpr, word, load, op1, op2, both, either, call, seq, bind, PlainExprs, no_exprs, exprs}
use Rattle.unit_ir.specs.Stmts.{PlainStmt, store, fork, loop, give, print, eval, PlainStmts, no_stmts, stmts}
use Rattle.unit_ir.specs.Units.{PlainFn, PlainUnit}

abbrev mutual
  pub expr_cost : PlainExpr → ℕ
  expr_cost (word v) = 1
  expr_cost (load s) = 1
  expr_cost (op1 o a) = 1 + expr_cost a
  expr_cost (op2 o a b) = 1 + (expr_cost a + expr_cost b)
  expr_cost (both a b) = 1 + (expr_cost a + expr_cost b)
  expr_cost (either a b) = 1 + (expr_cost a + expr_cost b)
  expr_cost (call k es) = 1 + exprs_cost es
  expr_cost (seq es) = 1 + exprs_cost es
  expr_cost (bind s w a b) = 1 + (expr_cost a + expr_cost b)

  pub exprs_cost : PlainExprs → ℕ
  exprs_cost no_exprs = 0
  exprs_cost (exprs e es) = expr_cost e + exprs_cost es

abbrev mutual
  pub stmt_cost : PlainStmt → ℕ
  stmt_cost (store s w e) = 1 + expr_cost e
  stmt_cost (fork e a b) = 1 + (expr_cost e + (stmts_cost a + stmts_cost b))
  stmt_cost (loop e a) = 1 + (expr_cost e + stmts_cost a)
  stmt_cost (give e) = 1 + expr_cost e
  stmt_cost (print e) = 1 + expr_cost e
  stmt_cost (eval e w) = 1 + expr_cost e

  pub stmts_cost : PlainStmts → ℕ
  stmts_cost no_stmts = 0
  stmts_cost (stmts s ss) = stmt_cost s + stmts_cost ss

abbrev pub functions_cost : List PlainFn → ℕ
functions_cost [] = 0
functions_cost (f ∷ fs) = stmts_cost f.body + functions_cost fs

abbrev pub unit_cost : PlainUnit → ℕ
unit_cost u = functions_cost u.functions
