-- Expressions as plain data, where each type is a label of the type A: a number of a row, or the type itself.
use Rattle.std.specs.Prelude.{ℕ, ℤ, Bool}
use Rattle.lar_source.specs.declared.file.Span.{Span}
use Rattle.type_table.specs.TypeOf.{TypeOf}
use Rattle.lar_typed.specs.declared.op.UnaryOp.{UnaryOp}
use Rattle.lar_typed.specs.declared.op.BinaryOp.{BinaryOp}

-- Each expression begins with its type.
mutual
  pub data ExprOf (A : Type 0) : Type 0 where
    int : A → ℤ → ExprOf A
    truth : A → Bool → ExprOf A
    -- a local by its number
    local : A → ℕ → ExprOf A
    -- a constant by its place among all constants
    constant : A → ℕ → ExprOf A
    -- a const generic by its place among the function's generics
    generic : A → ℕ → ExprOf A
    tuple_of : A → ExprsOf A → ExprOf A
    -- a struct by its fields
    made : A → ExprsOf A → ExprOf A
    -- a part of a tuple, or a field of a struct, by its place
    part : A → ExprOf A → ℕ → ExprOf A
    unary : A → UnaryOp → ExprOf A → ExprOf A
    binary : A → BinaryOp → ExprOf A → ExprOf A → ExprOf A
    -- the callee by its place among all functions, the list of the arguments for its generics, the arguments, and where its path stands
    call : A → ℕ → A → ExprsOf A → Span → ExprOf A

  pub data ExprsOf (A : Type 0) : Type 0 where
    no_exprs : ExprsOf A
    exprs : ExprOf A → ExprsOf A → ExprsOf A

-- an expression with its types
abbrev pub PlainExpr : Type 0
PlainExpr = ExprOf TypeOf

abbrev pub PlainExprs : Type 0
PlainExprs = ExprsOf TypeOf

-- the type of an expression
abbrev pub label_of : {A : Type 0} → ExprOf A → A
label_of (int t v) = t
label_of (truth t b) = t
label_of (local t n) = t
label_of (constant t n) = t
label_of (generic t k) = t
label_of (tuple_of t es) = t
label_of (made t es) = t
label_of (part t e k) = t
label_of (unary t op e) = t
label_of (binary t op a b) = t
label_of (call t n gs es at) = t

-- the same expression with other labels
abbrev mutual
  pub expr_map : {A B : Type 0} → (A → B) → ExprOf A → ExprOf B
  expr_map f (int t v) = int (f t) v
  expr_map f (truth t b) = truth (f t) b
  expr_map f (local t n) = local (f t) n
  expr_map f (constant t n) = constant (f t) n
  expr_map f (generic t k) = generic (f t) k
  expr_map f (tuple_of t es) = tuple_of (f t) (exprs_map f es)
  expr_map f (made t es) = made (f t) (exprs_map f es)
  expr_map f (part t e k) = part (f t) (expr_map f e) k
  expr_map f (unary t op e) = unary (f t) op (expr_map f e)
  expr_map f (binary t op a b) = binary (f t) op (expr_map f a) (expr_map f b)
  expr_map f (call t n gs es at) = call (f t) n (f gs) (exprs_map f es) at

  pub exprs_map : {A B : Type 0} → (A → B) → ExprsOf A → ExprsOf B
  exprs_map f no_exprs = no_exprs
  exprs_map f (exprs e es) = exprs (expr_map f e) (exprs_map f es)
