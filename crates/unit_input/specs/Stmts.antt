-- Statements of a unit's input as plain data.
use Rattle.std.specs.Prelude.{ℕ, ◌+◌, suc}
use Rattle.unit_input.specs.Exprs.{PlainExpr}

mutual
  pub data PlainStmt : Type 0 where
    -- a local gets its first value
    declare : ℕ → PlainExpr → PlainStmt
    -- so many words of a local are set: its number, the offset of the first word, and how many
    assign : ℕ → ℕ → ℕ → PlainExpr → PlainStmt
    -- the second block is empty without an `else`
    fork : PlainExpr → PlainStmts → PlainStmts → PlainStmt
    loop : PlainExpr → PlainStmts → PlainStmt
    -- a return; without a value it gives the empty tuple
    give : PlainExpr → PlainStmt
    print : PlainExpr → PlainStmt
    -- a static assertion
    assert : PlainExpr → PlainStmt
    eval : PlainExpr → PlainStmt

  pub data PlainStmts : Type 0 where
    no_stmts : PlainStmts
    stmts : PlainStmt → PlainStmts → PlainStmts

-- how many stand in a block
abbrev pub stmt_count : PlainStmts → ℕ
stmt_count no_stmts = 0
stmt_count (stmts s ss) = suc (stmt_count ss)

-- how many there are in all, those in inner blocks among them
abbrev mutual
  pub stmt_total : PlainStmt → ℕ
  stmt_total (fork e a b) = 1 + (stmts_total a + stmts_total b)
  stmt_total (loop e a) = 1 + stmts_total a
  stmt_total (declare n e) = 1
  stmt_total (assign n o w e) = 1
  stmt_total (give e) = 1
  stmt_total (print e) = 1
  stmt_total (assert e) = 1
  stmt_total (eval e) = 1

  pub stmts_total : PlainStmts → ℕ
  stmts_total no_stmts = 0
  stmts_total (stmts s ss) = stmt_total s + stmts_total ss
