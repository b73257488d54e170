-- The calls of a body whose labels are replaced, and those of a body whose labels are rows.
use Rattle.std.proofs.Common.{◌≡◌, ℕ, ◌<◌, List, [], ◌∷◌, ◌++◌, map, refl, sym, ap, ◌∙◌}
use Rattle.std.specs.List.{AllByRecursion}
use Rattle.std.proofs.lemmas.List.{map-append}
use Rattle.type_table.specs.TypeOf.{TypeOf}
use Rattle.lar_typed.specs.Exprs.{ExprOf, ExprsOf, truth, local, constant, generic, tuple_of, made, part, unary, binary, call, no_exprs, exprs, expr_map, exprs_map}
use Rattle.lar_typed.specs.Exprs as expr
use Rattle.lar_typed.specs.Stmts.{StmtOf, StmtsOf, let_local, assign, fork, loop, return_nothing, return_value, print, assert, eval, no_stmts, stmts, stmt_map, stmts_map}
use Rattle.lar_typed.specs.Calls.{CallOf, expr_calls, exprs_calls, stmt_calls, stmts_calls}
use Rattle.lar_typed.specs.Within.{ExprWithin, ExprsWithin, StmtWithin, StmtsWithin}

-- the same call with another label
abbrev pub call_map : {A B : Type 0} → (A → B) → CallOf A → CallOf B
call_map f c = record { callee = c.callee; generics = f c.generics; at = c.at }

abbrev pub Calls : Type 0
Calls = List (CallOf TypeOf)

both : (f : ℕ → TypeOf) (xs ys : Calls) (cs ds : List (CallOf ℕ)) → xs ≡ map (call_map f) cs → ys ≡ map (call_map f) ds → xs ++ ys ≡ map (call_map f) (cs ++ ds)
both f xs ys cs ds p q = ap (λ (zs : Calls). zs ++ ys) p ∙ ap (λ (zs : Calls). map (call_map f) cs ++ zs) q ∙ sym (map-append (call_map f) cs ds)

mutual
  pub expr_calls_map : (f : ℕ → TypeOf) (e : ExprOf ℕ) → expr_calls (expr_map f e) ≡ map (call_map f) (expr_calls e)
  expr_calls_map f (expr.int t v) = refl
  expr_calls_map f (truth t b) = refl
  expr_calls_map f (local t n) = refl
  expr_calls_map f (constant t n) = refl
  expr_calls_map f (generic t k) = refl
  expr_calls_map f (tuple_of t es) = exprs_calls_map f es
  expr_calls_map f (made t es) = exprs_calls_map f es
  expr_calls_map f (part t e k) = expr_calls_map f e
  expr_calls_map f (unary t op e) = expr_calls_map f e
  expr_calls_map f (binary t op a b) = both f (expr_calls (expr_map f a)) (expr_calls (expr_map f b)) (expr_calls a) (expr_calls b) (expr_calls_map f a) (expr_calls_map f b)
  expr_calls_map f (call t n gs es at) = ap (λ (cs : Calls). record { callee = n; generics = f gs; at = at } ∷ cs) (exprs_calls_map f es)

  pub exprs_calls_map : (f : ℕ → TypeOf) (es : ExprsOf ℕ) → exprs_calls (exprs_map f es) ≡ map (call_map f) (exprs_calls es)
  exprs_calls_map f no_exprs = refl
  exprs_calls_map f (exprs e es) = both f (expr_calls (expr_map f e)) (exprs_calls (exprs_map f es)) (expr_calls e) (exprs_calls es) (expr_calls_map f e) (exprs_calls_map f es)

mutual
  pub stmt_calls_map : (f : ℕ → TypeOf) (s : StmtOf ℕ) → stmt_calls (stmt_map f s) ≡ map (call_map f) (stmt_calls s)
  stmt_calls_map f (let_local n e) = expr_calls_map f e
  stmt_calls_map f (assign n ps e) = expr_calls_map f e
  stmt_calls_map f (fork c a b) =
      both f (expr_calls (expr_map f c)) (stmts_calls (stmts_map f a) ++ stmts_calls (stmts_map f b)) (expr_calls c) (stmts_calls a ++ stmts_calls b) (expr_calls_map f c)
      (both f (stmts_calls (stmts_map f a)) (stmts_calls (stmts_map f b)) (stmts_calls a) (stmts_calls b) (stmts_calls_map f a) (stmts_calls_map f b))
  stmt_calls_map f (loop c a) = both f (expr_calls (expr_map f c)) (stmts_calls (stmts_map f a)) (expr_calls c) (stmts_calls a) (expr_calls_map f c) (stmts_calls_map f a)
  stmt_calls_map f return_nothing = refl
  stmt_calls_map f (return_value e) = expr_calls_map f e
  stmt_calls_map f (print e) = expr_calls_map f e
  stmt_calls_map f (assert e at) = expr_calls_map f e
  stmt_calls_map f (eval e) = expr_calls_map f e

  -- to replace the labels of a body is to replace those of its calls
  pub stmts_calls_map : (f : ℕ → TypeOf) (ss : StmtsOf ℕ) → stmts_calls (stmts_map f ss) ≡ map (call_map f) (stmts_calls ss)
  stmts_calls_map f no_stmts = refl
  stmts_calls_map f (stmts s ss) = both f (stmt_calls (stmt_map f s)) (stmts_calls (stmts_map f ss)) (stmt_calls s) (stmts_calls ss) (stmt_calls_map f s) (stmts_calls_map f ss)

-- each call's label is below n
abbrev pub Below : ℕ → List (CallOf ℕ) → Type 0
Below n cs = AllByRecursion (λ c. c.generics < n) cs

joined : (n : ℕ) (cs ds : List (CallOf ℕ)) → Below n cs → Below n ds → Below n (cs ++ ds)
joined n [] ds p q = q
joined n (c ∷ cs) ds p q = (p.0, joined n cs ds p.1 q)

mutual
  expr_below : (n : ℕ) (e : ExprOf ℕ) → ExprWithin n e → Below n (expr_calls e)
  expr_below n (expr.int t v) w = tt
  expr_below n (truth t b) w = tt
  expr_below n (local t k) w = tt
  expr_below n (constant t k) w = tt
  expr_below n (generic t k) w = tt
  expr_below n (tuple_of t es) w = exprs_below n es w.1
  expr_below n (made t es) w = exprs_below n es w.1
  expr_below n (part t e k) w = expr_below n e w.1
  expr_below n (unary t op e) w = expr_below n e w.1
  expr_below n (binary t op a b) w = joined n (expr_calls a) (expr_calls b) (expr_below n a w.1) (expr_below n b w.2)
  expr_below n (call t k gs es at) w = (w.1, exprs_below n es w.2)

  exprs_below : (n : ℕ) (es : ExprsOf ℕ) → ExprsWithin n es → Below n (exprs_calls es)
  exprs_below n no_exprs w = tt
  exprs_below n (exprs e es) w = joined n (expr_calls e) (exprs_calls es) (expr_below n e w.0) (exprs_below n es w.1)

mutual
  stmt_below : (n : ℕ) (s : StmtOf ℕ) → StmtWithin n s → Below n (stmt_calls s)
  stmt_below n (let_local k e) w = expr_below n e w
  stmt_below n (assign k ps e) w = expr_below n e w.1
  stmt_below n (fork c a b) w = joined n (expr_calls c) (stmts_calls a ++ stmts_calls b) (expr_below n c w.0) (joined n (stmts_calls a) (stmts_calls b) (stmts_below n a w.1) (stmts_below n b w.2))
  stmt_below n (loop c a) w = joined n (expr_calls c) (stmts_calls a) (expr_below n c w.0) (stmts_below n a w.1)
  stmt_below n return_nothing w = tt
  stmt_below n (return_value e) w = expr_below n e w
  stmt_below n (print e) w = expr_below n e w
  stmt_below n (assert e at) w = expr_below n e w
  stmt_below n (eval e) w = expr_below n e w

  -- the labels of the calls of a body within n are below n
  pub stmts_below : (n : ℕ) (ss : StmtsOf ℕ) → StmtsWithin n ss → Below n (stmts_calls ss)
  stmts_below n no_stmts w = tt
  stmts_below n (stmts s ss) w = joined n (stmt_calls s) (stmts_calls ss) (stmt_below n s w.0) (stmts_below n ss w.1)
