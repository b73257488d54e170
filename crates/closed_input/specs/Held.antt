-- What a machine brings along that holds an input: numbers are words of 64 bits, and lists are not longer than a memory.
use Rattle.std.specs.Prelude.{◌≡◌, ◌<◌, ◌^◌, Bool, true, ◌&&◌, length}
use Rattle.std.specs.List.{AllByRecursion}
use Rattle.unit_input.specs.Exprs.{PlainExpr, int, truth, local, field, tuple, unary, binary, call, PlainExprs, no_exprs, exprs}
use Rattle.unit_input.specs.Stmts.{PlainStmt, declare, assign, fork, loop, give, print, assert, eval, PlainStmts, no_stmts, stmts}
use Rattle.unit_input.specs.Inputs.{PlainFn, PlainExternal, PlainInput}
use Rattle.unit_input.specs.Rules.{is_word}

-- each number is a word
abbrev mutual
  pub expr_words : PlainExpr → Bool
  expr_words (int v) = is_word v
  expr_words (truth b) = true
  expr_words (local n) = true
  expr_words (field e o w) = expr_words e
  expr_words (tuple es) = exprs_words es
  expr_words (unary op e) = expr_words e
  expr_words (binary op a b) = expr_words a && expr_words b
  expr_words (call k es) = exprs_words es

  pub exprs_words : PlainExprs → Bool
  exprs_words no_exprs = true
  exprs_words (exprs e es) = expr_words e && exprs_words es

abbrev mutual
  pub stmt_words : PlainStmt → Bool
  stmt_words (declare n e) = expr_words e
  stmt_words (assign n o w e) = expr_words e
  stmt_words (fork e a b) = expr_words e && (stmts_words a && stmts_words b)
  stmt_words (loop e a) = expr_words e && stmts_words a
  stmt_words (give e) = expr_words e
  stmt_words (print e) = expr_words e
  stmt_words (assert e) = expr_words e
  stmt_words (eval e) = expr_words e

  pub stmts_words : PlainStmts → Bool
  stmts_words no_stmts = true
  stmts_words (stmts s ss) = stmt_words s && stmts_words ss

pub record IsHeldFn (f : PlainFn) : Type 0 where
  pub symbol : length f.symbol < 2 ^ 32
  pub locals : length f.locals < 2 ^ 32
  pub body : stmts_words f.body ≡ true

pub record IsHeldExternal (x : PlainExternal) : Type 0 where
  pub symbol : length x.symbol < 2 ^ 32

pub record IsHeld (x : PlainInput) : Type 0 where
  pub functions : AllByRecursion IsHeldFn x.functions
  pub externals : AllByRecursion IsHeldExternal x.externals
