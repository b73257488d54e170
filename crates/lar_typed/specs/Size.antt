-- The size of a body: its statements and expressions.
use Rattle.std.specs.Prelude.{ℕ, suc, ◌+◌}
use Rattle.lar_typed.specs.Exprs.{ExprOf, ExprsOf, truth, local, constant, generic, tuple_of, made, part, unary, binary, call, no_exprs, exprs}
use Rattle.lar_typed.specs.Exprs as expr
use Rattle.lar_typed.specs.Stmts.{StmtOf, StmtsOf, let_local, assign, fork, loop, return_nothing, return_value, print, assert, eval, no_stmts, stmts}

abbrev mutual
  pub expr_size : {A : Type 0} → ExprOf A → ℕ
  expr_size (expr.int t v) = 1
  expr_size (truth t b) = 1
  expr_size (local t n) = 1
  expr_size (constant t n) = 1
  expr_size (generic t k) = 1
  expr_size (tuple_of t es) = 1 + exprs_size es
  expr_size (made t es) = 1 + exprs_size es
  expr_size (part t e k) = 1 + expr_size e
  expr_size (unary t op e) = 1 + expr_size e
  expr_size (binary t op a b) = 1 + (expr_size a + expr_size b)
  expr_size (call t n gs es at) = 1 + exprs_size es

  pub exprs_size : {A : Type 0} → ExprsOf A → ℕ
  exprs_size no_exprs = 0
  exprs_size (exprs e es) = expr_size e + exprs_size es

-- the place left of `=` does not count, nor does a `return` without a value count an expression
abbrev mutual
  pub stmt_size : {A : Type 0} → StmtOf A → ℕ
  stmt_size (let_local n e) = 1 + expr_size e
  stmt_size (assign n ps e) = 1 + expr_size e
  stmt_size (fork c a b) = 1 + (expr_size c + (stmts_size a + stmts_size b))
  stmt_size (loop c a) = 1 + (expr_size c + stmts_size a)
  stmt_size return_nothing = 1
  stmt_size (return_value e) = 1 + expr_size e
  stmt_size (print e) = 1 + expr_size e
  stmt_size (assert e at) = 1 + expr_size e
  stmt_size (eval e) = 1 + expr_size e

  pub stmts_size : {A : Type 0} → StmtsOf A → ℕ
  stmts_size no_stmts = 0
  stmts_size (stmts s ss) = stmt_size s + stmts_size ss
