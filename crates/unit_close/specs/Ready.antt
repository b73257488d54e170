-- What the code asks of a body: each number in it is in range, and each call has a number.
use Rattle.std.specs.Prelude.{ℕ, ◌+◌, ◌<◌, ◌^◌, List, [], ◌∷◌, length, slice_index_or}
use Rattle.lar_typed.specs.Calls.{expr_calls, stmt_calls, stmts_calls}
use Rattle.lar_typed.specs.Exprs.{ExprOf, ExprsOf, label_of}
use Rattle.lar_typed.specs.Exprs as expr
use Rattle.lar_typed.specs.Stmts.{StepOf, StmtOf, StmtsOf}
use Rattle.lar_typed.specs.Stmts as stmt
use Rattle.unit_close.specs.Measures.{IsRow, IsPlace}
use Rattle.unit_close.specs.Sight.{Sight}

abbrev mutual
  pub Ready : Sight → ℕ → ExprOf ℕ → Type 0
  Ready x i (expr.int t v) = Unit {0}
  Ready x i (expr.truth t b) = Unit {0}
  Ready x i (expr.local t n) = n < 2 ^ 32
  Ready x i (expr.constant t n) = n < length x.consts
  Ready x i (expr.generic t k) = k < length x.numbers
  Ready x i (expr.tuple_of t es) = AllReady x i es
  Ready x i (expr.made t es) = AllReady x i es
  Ready x i (expr.part t e k) = IsRow x.rows t × IsPlace x.rows (label_of e) × Ready x i e
  Ready x i (expr.unary t op e) = Ready x i e
  Ready x i (expr.binary t op a b) = Ready x i a × Ready x (i + length (expr_calls a)) b
  Ready x i (expr.call t n gs es at) = (i < length x.calls) × AllReady x (i + 1) es

  pub AllReady : Sight → ℕ → ExprsOf ℕ → Type 0
  AllReady x i expr.no_exprs = Unit {0}
  AllReady x i (expr.exprs e es) = Ready x i e × AllReady x (i + length (expr_calls e)) es

abbrev pub StepsReady : Sight → ℕ → List (StepOf ℕ) → Type 0
StepsReady x r [] = Unit {0}
StepsReady x r (p ∷ ps) = IsPlace x.rows r × StepsReady x p.of ps

abbrev mutual
  pub StmtReady : Sight → ℕ → StmtOf ℕ → Type 0
  StmtReady x i (stmt.let_local n e) = (n < 2 ^ 32) × Ready x i e
  StmtReady x i (stmt.assign n ps e) = (n < 2 ^ 32) × (n < length x.locals) × StepsReady x (slice_index_or x.locals n 0) ps × IsRow x.rows (label_of e) × Ready x i e
  StmtReady x i (stmt.fork c a b) = Ready x i c × StmtsReady x (i + length (expr_calls c)) a × StmtsReady x (i + length (expr_calls c) + length (stmts_calls a)) b
  StmtReady x i (stmt.loop c a) = Ready x i c × StmtsReady x (i + length (expr_calls c)) a
  StmtReady x i stmt.return_nothing = Unit {0}
  StmtReady x i (stmt.return_value e) = Ready x i e
  StmtReady x i (stmt.print e) = Ready x i e
  StmtReady x i (stmt.assert e at) = Ready x i e
  StmtReady x i (stmt.eval e) = Ready x i e

  pub StmtsReady : Sight → ℕ → StmtsOf ℕ → Type 0
  StmtsReady x i stmt.no_stmts = Unit {0}
  StmtsReady x i (stmt.stmts s ss) = StmtReady x i s × StmtsReady x (i + length (stmt_calls s)) ss
