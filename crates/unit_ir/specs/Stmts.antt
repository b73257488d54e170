-- Statements as plain data.
use Rattle.std.specs.Prelude.{ℕ}
use Rattle.unit_ir.specs.Exprs.{PlainExpr}

mutual
  pub data PlainStmt : Type 0 where
    -- from this slot on, so many words of the expression
    store : ℕ → ℕ → PlainExpr → PlainStmt
    fork : PlainExpr → PlainStmts → PlainStmts → PlainStmt
    loop : PlainExpr → PlainStmts → PlainStmt
    give : PlainExpr → PlainStmt
    print : PlainExpr → PlainStmt
    -- so many words of the expression, which are dropped
    eval : PlainExpr → ℕ → PlainStmt

  pub data PlainStmts : Type 0 where
    no_stmts : PlainStmts
    stmts : PlainStmt → PlainStmts → PlainStmts
