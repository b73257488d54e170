-- The label of an expression by its type and by its row.
use Rattle.std.proofs.Common.{◌≡◌, ℕ, ◌<◌, List, refl}
use Rattle.type_table.specs.declared.row.Row.{Row}
use Rattle.type_table.specs.TypeOf.{TypeOf}
use Rattle.type_table.specs.Rows.{type_at}
use Rattle.lar_typed.specs.Exprs.{ExprOf, truth, local, constant, generic, tuple_of, made, part, unary, binary, call, expr_map, label_of}
use Rattle.lar_typed.specs.Exprs as expr
use Rattle.lar_typed.specs.Within.{ExprWithin}

-- the label of an expression with its types is the type of its label
pub label_map : (f : ℕ → TypeOf) (e : ExprOf ℕ) → label_of (expr_map f e) ≡ f (label_of e)
label_map f (expr.int t v) = refl
label_map f (truth t b) = refl
label_map f (local t k) = refl
label_map f (constant t k) = refl
label_map f (generic t k) = refl
label_map f (tuple_of t es) = refl
label_map f (made t es) = refl
label_map f (part t e k) = refl
label_map f (unary t op e) = refl
label_map f (binary t op a b) = refl
label_map f (call t k gs es at) = refl

pub label_within : (n : ℕ) (e : ExprOf ℕ) → ExprWithin n e → label_of e < n
label_within n (expr.int t v) w = w
label_within n (truth t b) w = w
label_within n (local t k) w = w
label_within n (constant t k) w = w
label_within n (generic t k) w = w
label_within n (tuple_of t es) w = w.0
label_within n (made t es) w = w.0
label_within n (part t e k) w = w.0
label_within n (unary t op e) w = w.0
label_within n (binary t op a b) w = w.0
label_within n (call t k gs es at) w = w.0

pub same_label : (rows : List Row) (e : ExprOf ℕ) → label_of (expr_map (type_at rows) e) ≡ type_at rows (label_of e)
same_label rows e = label_map (type_at rows) e
