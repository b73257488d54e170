-- Expressions keep their types where other labels are the same below n, and so while the table grows.
use Rattle.std.proofs.Common.{◌≡◌, ℕ, ◌<◌, ◌≤◌, List, length, refl, ap, ◌∙◌, arith}
use Rattle.type_table.specs.declared.row.Row.{Row}
use Rattle.type_table.specs.TypeOf.{TypeOf}
use Rattle.type_table.specs.Rows.{type_at, Keeps}
use Rattle.lar_typed.specs.Exprs.{ExprOf, ExprsOf, PlainExpr, PlainExprs, truth, local, constant, generic, tuple_of, made, part, unary, binary, call, no_exprs, exprs, expr_map, exprs_map}
use Rattle.lar_typed.specs.Exprs as expr
use Rattle.lar_typed.specs.Within.{ExprWithin, ExprsWithin}
use Rattle.lar_typed.specs.Standing.{ExprStands, ExprsStand}

-- two labellings that are the same below n
abbrev pub SameBelow : ℕ → (ℕ → TypeOf) → (ℕ → TypeOf) → Type 0
SameBelow n f g = (k : ℕ) → k < n → f k ≡ g k

mutual
  pub expr_same : (f g : ℕ → TypeOf) (n : ℕ) → SameBelow n f g → (e : ExprOf ℕ) → ExprWithin n e → expr_map f e ≡ expr_map g e
  expr_same f g n h (expr.int t v) w = ap (λ (x : TypeOf). expr.int x v) (h t w)
  expr_same f g n h (truth t b) w = ap (λ (x : TypeOf). truth x b) (h t w)
  expr_same f g n h (local t k) w = ap (λ (x : TypeOf). local x k) (h t w)
  expr_same f g n h (constant t k) w = ap (λ (x : TypeOf). constant x k) (h t w)
  expr_same f g n h (generic t k) w = ap (λ (x : TypeOf). generic x k) (h t w)
  expr_same f g n h (tuple_of t es) w = ap (λ (x : TypeOf). tuple_of x (exprs_map f es)) (h t w.0) ∙ ap (tuple_of (g t)) (exprs_same f g n h es w.1)
  expr_same f g n h (made t es) w = ap (λ (x : TypeOf). made x (exprs_map f es)) (h t w.0) ∙ ap (made (g t)) (exprs_same f g n h es w.1)
  expr_same f g n h (part t e k) w = ap (λ (x : TypeOf). part x (expr_map f e) k) (h t w.0) ∙ ap (λ (x : PlainExpr). part (g t) x k) (expr_same f g n h e w.1)
  expr_same f g n h (unary t op e) w = ap (λ (x : TypeOf). unary x op (expr_map f e)) (h t w.0) ∙ ap (unary (g t) op) (expr_same f g n h e w.1)
  expr_same f g n h (binary t op a b) w =
      ap (λ (x : TypeOf). binary x op (expr_map f a) (expr_map f b)) (h t w.0) ∙ ap (λ (x : PlainExpr). binary (g t) op x (expr_map f b)) (expr_same f g n h a w.1)
      ∙ ap (binary (g t) op (expr_map g a)) (expr_same f g n h b w.2)
  expr_same f g n h (call t k gs es at) w =
      ap (λ (x : TypeOf). call x k (f gs) (exprs_map f es) at) (h t w.0) ∙ ap (λ (x : TypeOf). call (g t) k x (exprs_map f es) at) (h gs w.1)
      ∙ ap (λ (x : PlainExprs). call (g t) k (g gs) x at) (exprs_same f g n h es w.2)

  pub exprs_same : (f g : ℕ → TypeOf) (n : ℕ) → SameBelow n f g → (es : ExprsOf ℕ) → ExprsWithin n es → exprs_map f es ≡ exprs_map g es
  exprs_same f g n h no_exprs w = refl
  exprs_same f g n h (exprs e es) w = ap (λ (x : PlainExpr). exprs x (exprs_map f es)) (expr_same f g n h e w.0) ∙ ap (exprs (expr_map g e)) (exprs_same f g n h es w.1)

pub below_wider : (t n m : ℕ) → n ≤ m → t < n → t < m
below_wider t n m l h = omega arith

mutual
  pub expr_wider : (n m : ℕ) → n ≤ m → (e : ExprOf ℕ) → ExprWithin n e → ExprWithin m e
  expr_wider n m l (expr.int t v) w = below_wider t n m l w
  expr_wider n m l (truth t b) w = below_wider t n m l w
  expr_wider n m l (local t k) w = below_wider t n m l w
  expr_wider n m l (constant t k) w = below_wider t n m l w
  expr_wider n m l (generic t k) w = below_wider t n m l w
  expr_wider n m l (tuple_of t es) w = (below_wider t n m l w.0, exprs_wider n m l es w.1)
  expr_wider n m l (made t es) w = (below_wider t n m l w.0, exprs_wider n m l es w.1)
  expr_wider n m l (part t e k) w = (below_wider t n m l w.0, expr_wider n m l e w.1)
  expr_wider n m l (unary t op e) w = (below_wider t n m l w.0, expr_wider n m l e w.1)
  expr_wider n m l (binary t op a b) w = (below_wider t n m l w.0, expr_wider n m l a w.1, expr_wider n m l b w.2)
  expr_wider n m l (call t k gs es at) w = (below_wider t n m l w.0, below_wider gs n m l w.1, exprs_wider n m l es w.2)

  pub exprs_wider : (n m : ℕ) → n ≤ m → (es : ExprsOf ℕ) → ExprsWithin n es → ExprsWithin m es
  exprs_wider n m l no_exprs w = tt
  exprs_wider n m l (exprs e es) w = (expr_wider n m l e w.0, exprs_wider n m l es w.1)

pub expr_kept : (old new : List Row) (e : ExprOf ℕ) (p : PlainExpr) → Keeps old new → ExprStands old e p → ExprStands new e p
expr_kept old new e p k s = record { within = expr_wider (length old) (length new) k.longer e s.within; is = expr_same (type_at new) (type_at old) (length old) k.same e s.within ∙ s.is }

pub exprs_kept : (old new : List Row) (es : ExprsOf ℕ) (ps : PlainExprs) → Keeps old new → ExprsStand old es ps → ExprsStand new es ps
exprs_kept old new es ps k s = record { within = exprs_wider (length old) (length new) k.longer es s.within; is = exprs_same (type_at new) (type_at old) (length old) k.same es s.within ∙ s.is }
