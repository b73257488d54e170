-- Each slot that a tree names is below a count of slots, and each call's number below a count of callees.
use Rattle.std.specs.Prelude.{ℕ, ◌+◌, ◌<◌, ◌≤◌}
use Rattle.unit_ir.specs.Exprs.{PlainExpr, word, load, op1, op2, both, either, call, seq, bind, PlainExprs, no_exprs, exprs}
use Rattle.unit_ir.specs.Stmts.{PlainStmt, store, fork, loop, give, print, eval, PlainStmts, no_stmts, stmts}

abbrev mutual
  pub ExprInRange : ℕ → ℕ → PlainExpr → Type 0
  ExprInRange slots callees (word v) = Unit {0}
  ExprInRange slots callees (load s) = s < slots
  ExprInRange slots callees (op1 o a) = ExprInRange slots callees a
  ExprInRange slots callees (op2 o a b) = ExprInRange slots callees a × ExprInRange slots callees b
  ExprInRange slots callees (both a b) = ExprInRange slots callees a × ExprInRange slots callees b
  ExprInRange slots callees (either a b) = ExprInRange slots callees a × ExprInRange slots callees b
  ExprInRange slots callees (call k es) = (k < callees) × ExprsInRange slots callees es
  ExprInRange slots callees (seq es) = ExprsInRange slots callees es
  ExprInRange slots callees (bind s w a b) = (s + w ≤ slots) × ExprInRange slots callees a × ExprInRange slots callees b

  pub ExprsInRange : ℕ → ℕ → PlainExprs → Type 0
  ExprsInRange slots callees no_exprs = Unit {0}
  ExprsInRange slots callees (exprs e es) = ExprInRange slots callees e × ExprsInRange slots callees es

abbrev mutual
  pub StmtInRange : ℕ → ℕ → PlainStmt → Type 0
  StmtInRange slots callees (store s w e) = (s + w ≤ slots) × ExprInRange slots callees e
  StmtInRange slots callees (fork e a b) = ExprInRange slots callees e × StmtsInRange slots callees a × StmtsInRange slots callees b
  StmtInRange slots callees (loop e a) = ExprInRange slots callees e × StmtsInRange slots callees a
  StmtInRange slots callees (give e) = ExprInRange slots callees e
  StmtInRange slots callees (print e) = ExprInRange slots callees e
  StmtInRange slots callees (eval e w) = ExprInRange slots callees e

  pub StmtsInRange : ℕ → ℕ → PlainStmts → Type 0
  StmtsInRange slots callees no_stmts = Unit {0}
  StmtsInRange slots callees (stmts s ss) = StmtInRange slots callees s × StmtsInRange slots callees ss
