-- From one part of an expression to the next, at a parser.
use Rattle.std.proofs.Common.{◌≡◌, ℕ, ◌-◌, ◌≤◌, ◌&&◌, List, [], ◌∷◌, ◌++◌, Option, Some, None, Bool, true, false, if◌then◌else◌, refl, sym, ap, ◌∙◌, subst, arith, Result, Ok, Err}
use Rattle.std.specs.Prelude.{nat_le}
use Rattle.std.proofs.lemmas.Bool.{leb-true}
use Rattle.lar_source.specs.declared.file.Span.{Span}
use Rattle.lar_tree.specs.declared.sign.Sign.TheVariants as sign
use Rattle.lar_tree.specs.declared.token.Kind.TheVariants as kind
use Rattle.lar_tree.specs.declared.token.Token.{Token}
use Rattle.lar_tree.specs.declared.expr.Selector.{Selector}
use Rattle.lar_tree.specs.declared.expr.Unary.{Unary}
use Rattle.lar_tree.specs.declared.expr.Unary.TheVariants as unary
use Rattle.lar_tree.specs.declared.expr.Binary.{Binary}
use Rattle.lar_tree.specs.declared.expr.Binary.TheVariants as binary
use Rattle.lar_tree.specs.Spelling.{sign_token}
use Rattle.lar_tree.specs.Exprs.{PlainExpr, unary_of, binary_of, field, unary_sign, binary_sign, height_of, left_height, height, Grouped}
use Rattle.lar_grammar.specs.Looks.{Look, look, operator, prefix}
use Rattle.lar_grammar.specs.Symbols.{level, operand, tails, Stack, skip, take, when}
use Rattle.lar_grammar.specs.Moves.{in_reach, next_low, operated, expand}
use Rattle.lar_grammar.specs.Machine.{fault}
use Rattle.lar_grammar.proofs.Steps.{when_true}
use Rattle.lar_syntax.specs.Reads.{ReadsOn, Advances}
use Rattle.lar_syntax.specs.ReadsExprs.{ReadsTo, reach}
use Rattle.lar_syntax.specs.declared.parser.cursor.Stop.{Stop}
use Rattle.lar_syntax.specs.declared.parser.cursor.Stop.TheVariants as stop
use Rattle.lar_syntax.specs.declared.parser.cursor.Parser.{Parser}
use Rattle.lar_syntax.proofs.Flow.{moved, skipped, token_is}

-- ---- parts behind which other symbols come

-- behind tokens that were read
pub behind_to : {T : Type 0} (spell : T → List Token) (front : List Token) (from mid to : Stack) (p q : Parser) (r : Result T Stop) (new : Parser) → p.rest.now ≡ front ++ q.rest.now → ((ss : Stack) → fault p.rest.now p.room (from ++ ss) ≡ fault q.rest.now q.room (mid ++ (to ++ ss))) → ReadsOn front spell mid q r new → ReadsTo spell from to p r new
behind_to spell front from mid to p q (Ok x) new e go h = (e ∙ h.0, λ ss. go ss ∙ h.1 (to ++ ss))
behind_to spell front from mid to p q (Err stop.Memory) new e go h = tt
behind_to spell front from mid to p q (Err stop.Syntax) new e go h = λ ss. go ss ∙ h (to ++ ss)

-- ---- operators

-- what reaches is the operator that was seen, and its height is within the bounds
reach_found : (low high : ℕ) (o : Option Binary) (op : Binary) → reach low high o ≡ Some op → (o ≡ Some op) × (in_reach low high op ≡ true)
reach_found low high None op e = cc
reach_found low high (Some x) op e = go (in_reach low high x) refl e
  where
    go : (b : Bool) → in_reach low high x ≡ b → (if b then Some x else None) ≡ Some op → (Some x ≡ Some op) × (in_reach low high op ≡ true)
    go true t e = let y : x ≡ op = cc in (e, subst (λ (z : Binary). in_reach low high z ≡ true) y t)
    go false t e = cc

both_within : (a b c d : ℕ) → (nat_le a b && nat_le c d) ≡ true → (a ≤ b) × (c ≤ d)
both_within a b c d e = go (nat_le a b) (nat_le c d) refl refl e
  where
    go : (x y : Bool) → nat_le a b ≡ x → nat_le c d ≡ y → (x && y) ≡ true → (a ≤ b) × (c ≤ d)
    go true true p q e = (leb-true a b p, leb-true c d q)
    go true false p q e = cc
    go false y p q e = cc

pub reach_within : (low high : ℕ) (l : Look) (op : Binary) → reach low high (operator l) ≡ Some op → (low ≤ height_of op) × (height_of op ≤ high)
reach_within low high l op e = both_within low (height_of op) (height_of op) high (reach_found low high (operator l) op e).1

pub tails_take : (low high : ℕ) (l : Look) (op : Binary) → reach low high (operator l) ≡ Some op → expand (tails low high) l ≡ take (level (height_of op - 1) ∷ tails (next_low op) high ∷ [])
tails_take low high l op e =
    let f = reach_found low high (operator l) op e in
    ap (λ o. operated low high o) f.0 ∙ when_true (in_reach low high op) (take (level (height_of op - 1) ∷ tails (next_low op) high ∷ [])) skip f.1

none_reaches : (low high : ℕ) (o : Option Binary) → reach low high o ≡ None → operated low high o ≡ skip
none_reaches low high None e = refl
none_reaches low high (Some op) e = go (in_reach low high op) e
  where
    go : (b : Bool) → (if b then Some op else None) ≡ None → when b (take (level (height_of op - 1) ∷ tails (next_low op) high ∷ [])) skip ≡ skip
    go true e = cc
    go false e = refl

pub tails_skip : (low high : ℕ) (l : Look) → reach low high (operator l) ≡ None → expand (tails low high) l ≡ skip
tails_skip low high l e = none_reaches low high (operator l) e

operator_seen : (l : Look) (op : Binary) → operator l ≡ Some op → l ≡ Some (kind.Sign (binary_sign op))
operator_seen (Some (kind.Sign sign.Or)) op e = let y : binary.Or ≡ op = cc in ap (λ x. Some (kind.Sign (binary_sign x))) y
operator_seen (Some (kind.Sign sign.And)) op e = let y : binary.And ≡ op = cc in ap (λ x. Some (kind.Sign (binary_sign x))) y
operator_seen (Some (kind.Sign sign.Equal)) op e = let y : binary.Equal ≡ op = cc in ap (λ x. Some (kind.Sign (binary_sign x))) y
operator_seen (Some (kind.Sign sign.NotEqual)) op e = let y : binary.NotEqual ≡ op = cc in ap (λ x. Some (kind.Sign (binary_sign x))) y
operator_seen (Some (kind.Sign sign.Less)) op e = let y : binary.Less ≡ op = cc in ap (λ x. Some (kind.Sign (binary_sign x))) y
operator_seen (Some (kind.Sign sign.AtMost)) op e = let y : binary.AtMost ≡ op = cc in ap (λ x. Some (kind.Sign (binary_sign x))) y
operator_seen (Some (kind.Sign sign.Greater)) op e = let y : binary.Greater ≡ op = cc in ap (λ x. Some (kind.Sign (binary_sign x))) y
operator_seen (Some (kind.Sign sign.AtLeast)) op e = let y : binary.AtLeast ≡ op = cc in ap (λ x. Some (kind.Sign (binary_sign x))) y
operator_seen (Some (kind.Sign sign.Plus)) op e = let y : binary.Plus ≡ op = cc in ap (λ x. Some (kind.Sign (binary_sign x))) y
operator_seen (Some (kind.Sign sign.Minus)) op e = let y : binary.Minus ≡ op = cc in ap (λ x. Some (kind.Sign (binary_sign x))) y
operator_seen (Some (kind.Sign sign.Star)) op e = let y : binary.Star ≡ op = cc in ap (λ x. Some (kind.Sign (binary_sign x))) y
operator_seen (Some (kind.Sign sign.Slash)) op e = let y : binary.Slash ≡ op = cc in ap (λ x. Some (kind.Sign (binary_sign x))) y
operator_seen (Some (kind.Sign sign.Percent)) op e = let y : binary.Percent ≡ op = cc in ap (λ x. Some (kind.Sign (binary_sign x))) y
operator_seen _ op e = cc

pub operator_token : (p q : Parser) (low high : ℕ) (op : Binary) (at : Span) → reach low high (operator (look p.rest.now)) ≡ Some op → Advances p (Ok at) q → p.rest.now ≡ sign_token (binary_sign op) at ∷ q.rest.now
operator_token p q low high op at e a = token_is p q (kind.Sign (binary_sign op)) at (operator_seen (look p.rest.now) op (reach_found low high (operator (look p.rest.now)) op e).0) a

-- an operator is taken, and its right operand comes
pub operates : (p q : Parser) (low high k : ℕ) (op : Binary) (at : Span) (ss : Stack) → k ≡ height_of op → reach low high (operator (look p.rest.now)) ≡ Some op → Advances p (Ok at) q → fault p.rest.now p.room (tails low high ∷ ss) ≡ fault q.rest.now q.room (level (k - 1) ∷ tails (next_low op) high ∷ ss)
operates p q low high k op at ss z e a =
    moved p q (tails low high) (level (height_of op - 1) ∷ tails (next_low op) high ∷ []) ss at (tails_take low high (look p.rest.now) op e) a
    ∙ ap (λ i. fault q.rest.now q.room (level (i - 1) ∷ tails (next_low op) high ∷ ss)) (sym z)

-- no operator reaches
pub operates_no_more : (p : Parser) (low high : ℕ) (ss : Stack) → reach low high (operator (look p.rest.now)) ≡ None → fault p.rest.now p.room (tails low high ∷ ss) ≡ fault p.rest.now p.room ss
operates_no_more p low high ss e = skipped p (tails low high) ss (tails_skip low high (look p.rest.now) e) refl

-- ---- prefixes

prefix_seen : (l : Look) (op : Unary) → prefix l ≡ Some op → l ≡ Some (kind.Sign (unary_sign op))
prefix_seen (Some (kind.Sign sign.Minus)) op e = let y : unary.Minus ≡ op = cc in ap (λ x. Some (kind.Sign (unary_sign x))) y
prefix_seen (Some (kind.Sign sign.Not)) op e = let y : unary.Not ≡ op = cc in ap (λ x. Some (kind.Sign (unary_sign x))) y
prefix_seen _ op e = cc

pub prefix_take : (l : Look) (op : Unary) → prefix l ≡ Some op → expand operand l ≡ take (operand ∷ [])
prefix_take (Some (kind.Sign sign.Minus)) op e = refl
prefix_take (Some (kind.Sign sign.Not)) op e = refl
prefix_take _ op e = cc

pub prefix_token : (p q : Parser) (op : Unary) (at : Span) → prefix (look p.rest.now) ≡ Some op → Advances p (Ok at) q → p.rest.now ≡ sign_token (unary_sign op) at ∷ q.rest.now
prefix_token p q op at e a = token_is p q (kind.Sign (unary_sign op)) at (prefix_seen (look p.rest.now) op e) a

-- ---- heights

pub least_height : (op : Binary) → 2 ≤ height_of op
least_height binary.Or = omega arith
least_height binary.And = omega arith
least_height binary.Plus = omega arith
least_height binary.Minus = omega arith
least_height binary.Star = omega arith
least_height binary.Slash = omega arith
least_height binary.Percent = omega arith
least_height _ = omega arith

-- whatever is no higher than a sign that does not compare fits each sign of at least that height
left_of : (k : ℕ) (op : Binary) → (k ≡ 4 → ⊥) → k ≤ height_of op → k ≤ left_height op
left_of k binary.Or not h = h
left_of k binary.And not h = h
left_of k binary.Plus not h = h
left_of k binary.Minus not h = h
left_of k binary.Star not h = h
left_of k binary.Slash not h = h
left_of k binary.Percent not h = h
left_of k _ not h = omega arith

pub fits_first : (x : PlainExpr) (op : Binary) → height x ≤ 1 → height x ≤ left_height op
fits_first x op low = omega (arith, left_of 2 op (λ e. omega arith) (least_height op))

fits_next : (op next : Binary) → next_low op ≤ height_of next → height_of op ≤ left_height next
fits_next binary.Or next h = left_of 6 next (λ e. omega arith) h
fits_next binary.And next h = left_of 5 next (λ e. omega arith) h
fits_next binary.Plus next h = left_of 3 next (λ e. omega arith) h
fits_next binary.Minus next h = left_of 3 next (λ e. omega arith) h
fits_next binary.Star next h = left_of 2 next (λ e. omega arith) h
fits_next binary.Slash next h = left_of 2 next (λ e. omega arith) h
fits_next binary.Percent next h = left_of 2 next (λ e. omega arith) h
fits_next _ next h = omega (arith, left_of 5 next (λ e. omega arith) h)

pub binary_fits : (x l r : PlainExpr) (op next : Binary) (at : Span) (low : ℕ) → x ≡ binary_of l op at r → low ≡ next_low op → low ≤ height_of next → height x ≤ left_height next
binary_fits x l r op next at low e z h = omega (arith, ap height e, fits_next op next (omega arith))

pub binary_low : (x l r : PlainExpr) (op : Binary) (at : Span) (high : ℕ) → x ≡ binary_of l op at r → height_of op ≤ high → height x ≤ high
binary_low x l r op at high e k = omega (arith, ap height e, k)

pub binary_grouped : (x l r : PlainExpr) (op : Binary) (at : Span) (k : ℕ) → x ≡ binary_of l op at r → k ≡ height_of op → height l ≤ left_height op → Grouped l → height r ≤ k - 1 → Grouped r → Grouped x
binary_grouped x l r op at k e z low left small right = subst Grouped (sym e) (low, omega (arith, least_height op), left, right)

pub unary_grouped : (x inner : PlainExpr) (op : Unary) (at : Span) → x ≡ unary_of op at inner → height inner ≤ 1 → Grouped inner → (height x ≤ 1) × Grouped x
unary_grouped x inner op at e low g = (omega (arith, ap height e), subst Grouped (sym e) (low, g))

pub field_low : (x l : PlainExpr) (at : Span) (s : Selector) → x ≡ field l at s → height x ≤ 0
field_low x l at s e = omega (arith, ap height e)

pub field_grouped : (x l : PlainExpr) (at : Span) (s : Selector) → x ≡ field l at s → height l ≤ 0 → Grouped l → Grouped x
field_grouped x l at s e low g = subst Grouped (sym e) (low, g)
