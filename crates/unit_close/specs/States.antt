-- What is known of what is made.
use Rattle.std.specs.Prelude.{◌≡◌, ℕ, ◌+◌, true, length}
use Rattle.lar_typed.specs.Calls.{expr_calls, exprs_calls, stmt_calls, stmts_calls}
use Rattle.lar_typed.specs.Exprs.{ExprOf, ExprsOf}
use Rattle.lar_typed.specs.Stmts.{StmtOf, StmtsOf}
use Rattle.unit_input.specs.Exprs.{PlainExpr, PlainExprs}
use Rattle.unit_input.specs.Stmts.{PlainStmt, PlainStmts}
use Rattle.closed_input.specs.Held.{expr_words, exprs_words, stmt_words, stmts_words}
use Rattle.unit_close.specs.Made.{made_expr, made_exprs, made_stmt, made_stmts}
use Rattle.unit_close.specs.Sight.{Sight}

-- r is what is made of the expression, whose calls are numbered from number i on; the next call has the number next; and each
-- number in it is a word
pub record IsMade (x : Sight) (i : ℕ) (e : ExprOf ℕ) (next : ℕ) (r : PlainExpr) : Type 0 where
  pub is : r ≡ made_expr x i e
  pub last : next ≡ i + length (expr_calls e)
  pub held : expr_words r ≡ true

pub record AreMade (x : Sight) (i : ℕ) (es : ExprsOf ℕ) (next : ℕ) (rs : PlainExprs) : Type 0 where
  pub are : rs ≡ made_exprs x i es
  pub last : next ≡ i + length (exprs_calls es)
  pub held : exprs_words rs ≡ true

pub record IsMadeStmt (x : Sight) (i : ℕ) (s : StmtOf ℕ) (next : ℕ) (r : PlainStmt) : Type 0 where
  pub is : r ≡ made_stmt x i s
  pub last : next ≡ i + length (stmt_calls s)
  pub held : stmt_words r ≡ true

pub record AreMadeStmts (x : Sight) (i : ℕ) (ss : StmtsOf ℕ) (next : ℕ) (rs : PlainStmts) : Type 0 where
  pub are : rs ≡ made_stmts x i ss
  pub last : next ≡ i + length (stmts_calls ss)
  pub held : stmts_words rs ≡ true
