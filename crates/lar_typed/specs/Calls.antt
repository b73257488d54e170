-- The calls of a body in reading order: a call stands where its first token stands, so before the calls in its arguments.
use Rattle.std.specs.Prelude.{ℕ, List, [], ◌∷◌, ◌++◌}
use Rattle.lar_source.specs.declared.file.Span.{Span}
use Rattle.lar_typed.specs.Exprs.{ExprOf, ExprsOf, truth, local, constant, generic, tuple_of, made, part, unary, binary, call, no_exprs, exprs}
use Rattle.lar_typed.specs.Exprs as expr
use Rattle.lar_typed.specs.Stmts.{StmtOf, StmtsOf, let_local, assign, fork, loop, return_nothing, return_value, print, assert, eval, no_stmts, stmts}

-- the callee, the list of the arguments for its generics, and where its path stands
pub record CallOf (A : Type 0) : Type 0 where
  pub callee : ℕ
  pub generics : A
  pub at : Span

abbrev mutual
  pub expr_calls : {A : Type 0} → ExprOf A → List (CallOf A)
  expr_calls (expr.int t v) = []
  expr_calls (truth t b) = []
  expr_calls (local t n) = []
  expr_calls (constant t n) = []
  expr_calls (generic t k) = []
  expr_calls (tuple_of t es) = exprs_calls es
  expr_calls (made t es) = exprs_calls es
  expr_calls (part t e k) = expr_calls e
  expr_calls (unary t op e) = expr_calls e
  expr_calls (binary t op a b) = expr_calls a ++ expr_calls b
  expr_calls (call t n gs es at) = record { callee = n; generics = gs; at = at } ∷ exprs_calls es

  pub exprs_calls : {A : Type 0} → ExprsOf A → List (CallOf A)
  exprs_calls no_exprs = []
  exprs_calls (exprs e es) = expr_calls e ++ exprs_calls es

abbrev mutual
  pub stmt_calls : {A : Type 0} → StmtOf A → List (CallOf A)
  stmt_calls (let_local n e) = expr_calls e
  stmt_calls (assign n ps e) = expr_calls e
  stmt_calls (fork c a b) = expr_calls c ++ (stmts_calls a ++ stmts_calls b)
  stmt_calls (loop c a) = expr_calls c ++ stmts_calls a
  stmt_calls return_nothing = []
  stmt_calls (return_value e) = expr_calls e
  stmt_calls (print e) = expr_calls e
  stmt_calls (assert e at) = expr_calls e
  stmt_calls (eval e) = expr_calls e

  pub stmts_calls : {A : Type 0} → StmtsOf A → List (CallOf A)
  stmts_calls no_stmts = []
  stmts_calls (stmts s ss) = stmt_calls s ++ stmts_calls ss
