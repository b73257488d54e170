-- What is made of a body whose types are numbers of rows. The calls of a body are numbered in reading order; i is how many came
-- before.
use Rattle.std.specs.Prelude.{ℕ, ◌+◌, pos, List, [], ◌∷◌, length, slice_get, slice_index_or}
use Rattle.type_table.specs.Rows.{type_at}
use Rattle.lar_typed.specs.Calls.{expr_calls, stmt_calls, stmts_calls}
use Rattle.lar_typed.specs.Exprs.{ExprOf, ExprsOf, label_of}
use Rattle.lar_typed.specs.Exprs as expr
use Rattle.lar_typed.specs.Stmts.{StepOf, StmtOf, StmtsOf}
use Rattle.lar_typed.specs.Stmts as stmt
use Rattle.unit_input.specs.Exprs.{no_exprs, exprs, PlainExpr as UnitExpr, PlainExprs as UnitExprs}
use Rattle.unit_input.specs.Exprs as unit
use Rattle.unit_input.specs.Stmts.{no_stmts, stmts, PlainStmt as UnitStmt, PlainStmts as UnitStmts}
use Rattle.unit_input.specs.Stmts as unit_stmt
use Rattle.unit_input.specs.Widths.{cut}
use Rattle.closed_input.specs.Bodies.{const_value, unary_of, binary_of}
use Rattle.unit_close.specs.Measures.{words_at, words_until}
use Rattle.unit_close.specs.Sight.{Sight}

abbrev pub width_at : Sight → ℕ → ℕ
width_at x r = cut (words_at x.rows x.structs x.widths (type_at x.rows r))

abbrev pub until : Sight → ℕ → ℕ → ℕ
until x r k = words_until x.rows x.structs x.widths (type_at x.rows r) k

abbrev mutual
  pub made_expr : Sight → ℕ → ExprOf ℕ → UnitExpr
  made_expr x i (expr.int t v) = unit.int v
  made_expr x i (expr.truth t b) = unit.truth b
  made_expr x i (expr.local t n) = unit.local n
  made_expr x i (expr.constant t n) = unit.int (const_value (slice_get x.consts n))
  made_expr x i (expr.generic t k) = unit.int (slice_index_or x.numbers k (pos 0))
  made_expr x i (expr.tuple_of t es) = unit.tuple (made_exprs x i es)
  made_expr x i (expr.made t es) = unit.tuple (made_exprs x i es)
  made_expr x i (expr.part t e k) = unit.field (made_expr x i e) (cut (until x (label_of e) k)) (width_at x t)
  made_expr x i (expr.unary t op e) = unit.unary (unary_of op) (made_expr x i e)
  made_expr x i (expr.binary t op a b) = unit.binary (binary_of op) (made_expr x i a) (made_expr x (i + length (expr_calls a)) b)
  made_expr x i (expr.call t n gs es at) = unit.call (slice_index_or x.calls i 0) (made_exprs x (i + 1) es)

  pub made_exprs : Sight → ℕ → ExprsOf ℕ → UnitExprs
  made_exprs x i expr.no_exprs = no_exprs
  made_exprs x i (expr.exprs e es) = exprs (made_expr x i e) (made_exprs x (i + length (expr_calls e)) es)

-- how many words stand before the place that steps lead to, from a value of row r
abbrev pub along : Sight → ℕ → List (StepOf ℕ) → ℕ
along x r [] = 0
along x r (p ∷ ps) = until x r p.part + along x p.of ps

abbrev mutual
  pub made_stmt : Sight → ℕ → StmtOf ℕ → UnitStmt
  made_stmt x i (stmt.let_local n e) = unit_stmt.declare n (made_expr x i e)
  made_stmt x i (stmt.assign n ps e) = unit_stmt.assign n (cut (along x (slice_index_or x.locals n 0) ps)) (width_at x (label_of e)) (made_expr x i e)
  made_stmt x i (stmt.fork c a b) = unit_stmt.fork (made_expr x i c) (made_stmts x (i + length (expr_calls c)) a) (made_stmts x (i + length (expr_calls c) + length (stmts_calls a)) b)
  made_stmt x i (stmt.loop c a) = unit_stmt.loop (made_expr x i c) (made_stmts x (i + length (expr_calls c)) a)
  made_stmt x i stmt.return_nothing = unit_stmt.give (unit.tuple no_exprs)
  made_stmt x i (stmt.return_value e) = unit_stmt.give (made_expr x i e)
  made_stmt x i (stmt.print e) = unit_stmt.print (made_expr x i e)
  made_stmt x i (stmt.assert e at) = unit_stmt.assert (made_expr x i e)
  made_stmt x i (stmt.eval e) = unit_stmt.eval (made_expr x i e)

  pub made_stmts : Sight → ℕ → StmtsOf ℕ → UnitStmts
  made_stmts x i stmt.no_stmts = no_stmts
  made_stmts x i (stmt.stmts s ss) = stmts (made_stmt x i s) (made_stmts x (i + length (stmt_calls s)) ss)
