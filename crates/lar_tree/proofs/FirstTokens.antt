-- The first token of an expression and of a type is the first that it spells.
use Rattle.std.proofs.Common.{◌≡◌, List, [], ◌∷◌, ◌++◌, refl, ap}
use Rattle.lar_tree.specs.declared.sign.Sign.TheVariants as sign
use Rattle.lar_tree.specs.declared.token.Token.{Token}
use Rattle.lar_tree.specs.Spelling.{sign_token}
use Rattle.lar_tree.specs.Types.{PlainTy, int_type, bool_type, unit_type, tuple_type, named_type, generic_type, flat_type}
use Rattle.lar_tree.specs.Exprs.{PlainExpr, number, truth, untruth, paren, new_struct, path, call, field, unary_of, binary_of, binary_sign, selector_token, flat_expr}
use Rattle.lar_tree.specs.Firsts.{expr_first, type_first}

pub type-begins : (t : PlainTy) → (rest : List Token) × (flat_type t ≡ type_first t ∷ rest)
type-begins (int_type at) = (_, refl)
type-begins (bool_type at) = (_, refl)
type-begins (unit_type from to) = (_, refl)
type-begins (tuple_type from first comma second others to) = (_, refl)
type-begins (named_type p) = (_, refl)
type-begins (generic_type p args) = (_, refl)

pub expr-begins : (e : PlainExpr) → (rest : List Token) × (flat_expr e ≡ expr_first e ∷ rest)
expr-begins (number n at) = (_, refl)
expr-begins (truth at) = (_, refl)
expr-begins (untruth at) = (_, refl)
expr-begins (paren from ps to) = (_, refl)
expr-begins (new_struct at p generics from is to) = (_, refl)
expr-begins (path p) = (_, refl)
expr-begins (call p generics from ps to) = (_, refl)
expr-begins (field inner dot s) =
    let r = expr-begins inner in
    let after : List Token = sign_token sign.Dot dot ∷ selector_token s ∷ [] in
    (r.0 ++ after, ap (λ ts. ts ++ after) r.1)
expr-begins (unary_of op at inner) = (_, refl)
expr-begins (binary_of left op at right) =
    let r = expr-begins left in
    let after : List Token = sign_token (binary_sign op) at ∷ flat_expr right in
    (r.0 ++ after, ap (λ ts. ts ++ after) r.1)
