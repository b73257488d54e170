-- The size of a body whose labels are replaced.
use Rattle.std.proofs.Common.{◌≡◌, ℕ, ◌+◌, refl, ap}
use Rattle.type_table.specs.TypeOf.{TypeOf}
use Rattle.lar_typed.specs.Exprs.{ExprOf, ExprsOf, truth, local, constant, generic, tuple_of, made, part, unary, binary, call, no_exprs, exprs, expr_map, exprs_map}
use Rattle.lar_typed.specs.Exprs as expr
use Rattle.lar_typed.specs.Stmts.{StmtOf, StmtsOf, let_local, assign, fork, loop, return_nothing, return_value, print, assert, eval, no_stmts, stmts, stmt_map, stmts_map}
use Rattle.lar_typed.specs.Size.{expr_size, exprs_size, stmt_size, stmts_size}

plus : (a b c d : ℕ) → a ≡ c → b ≡ d → a + b ≡ c + d
plus a b c d p q = cc

mutual
  expr_size_map : (f : ℕ → TypeOf) (e : ExprOf ℕ) → expr_size (expr_map f e) ≡ expr_size e
  expr_size_map f (expr.int t v) = refl
  expr_size_map f (truth t b) = refl
  expr_size_map f (local t n) = refl
  expr_size_map f (constant t n) = refl
  expr_size_map f (generic t k) = refl
  expr_size_map f (tuple_of t es) = ap (λ (n : ℕ). 1 + n) (exprs_size_map f es)
  expr_size_map f (made t es) = ap (λ (n : ℕ). 1 + n) (exprs_size_map f es)
  expr_size_map f (part t e k) = ap (λ (n : ℕ). 1 + n) (expr_size_map f e)
  expr_size_map f (unary t op e) = ap (λ (n : ℕ). 1 + n) (expr_size_map f e)
  expr_size_map f (binary t op a b) = ap (λ (n : ℕ). 1 + n) (plus (expr_size (expr_map f a)) (expr_size (expr_map f b)) (expr_size a) (expr_size b) (expr_size_map f a) (expr_size_map f b))
  expr_size_map f (call t n gs es at) = ap (λ (n : ℕ). 1 + n) (exprs_size_map f es)

  exprs_size_map : (f : ℕ → TypeOf) (es : ExprsOf ℕ) → exprs_size (exprs_map f es) ≡ exprs_size es
  exprs_size_map f no_exprs = refl
  exprs_size_map f (exprs e es) = plus (expr_size (expr_map f e)) (exprs_size (exprs_map f es)) (expr_size e) (exprs_size es) (expr_size_map f e) (exprs_size_map f es)

mutual
  stmt_size_map : (f : ℕ → TypeOf) (s : StmtOf ℕ) → stmt_size (stmt_map f s) ≡ stmt_size s
  stmt_size_map f (let_local n e) = ap (λ (n : ℕ). 1 + n) (expr_size_map f e)
  stmt_size_map f (assign n ps e) = ap (λ (n : ℕ). 1 + n) (expr_size_map f e)
  stmt_size_map f (fork c a b) =
      ap (λ (n : ℕ). 1 + n) (plus (expr_size (expr_map f c)) (stmts_size (stmts_map f a) + stmts_size (stmts_map f b)) (expr_size c) (stmts_size a + stmts_size b) (expr_size_map f c)
      (plus (stmts_size (stmts_map f a)) (stmts_size (stmts_map f b)) (stmts_size a) (stmts_size b) (stmts_size_map f a) (stmts_size_map f b)))
  stmt_size_map f (loop c a) = ap (λ (n : ℕ). 1 + n) (plus (expr_size (expr_map f c)) (stmts_size (stmts_map f a)) (expr_size c) (stmts_size a) (expr_size_map f c) (stmts_size_map f a))
  stmt_size_map f return_nothing = refl
  stmt_size_map f (return_value e) = ap (λ (n : ℕ). 1 + n) (expr_size_map f e)
  stmt_size_map f (print e) = ap (λ (n : ℕ). 1 + n) (expr_size_map f e)
  stmt_size_map f (assert e at) = ap (λ (n : ℕ). 1 + n) (expr_size_map f e)
  stmt_size_map f (eval e) = ap (λ (n : ℕ). 1 + n) (expr_size_map f e)

  -- a body is as large whatever its labels are
  pub stmts_size_map : (f : ℕ → TypeOf) (ss : StmtsOf ℕ) → stmts_size (stmts_map f ss) ≡ stmts_size ss
  stmts_size_map f no_stmts = refl
  stmts_size_map f (stmts s ss) = plus (stmt_size (stmt_map f s)) (stmts_size (stmts_map f ss)) (stmt_size s) (stmts_size ss) (stmt_size_map f s) (stmts_size_map f ss)
