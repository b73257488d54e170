-- What may stand behind an expression, and how signs of each height are gone on with.
use Rattle.std.proofs.Common.{◌≡◌, ℕ, ◌-◌, ◌≤◌, ◌<◌, ◌⊎◌, inl, inr, ◌&&◌, nat_le, [], ◌∷◌, Option, Some, None, Bool, true, false, refl, sym, ap, ◌∙◌, subst, arith}
use borrow.Author.Tests.{le-leb, lt-leb}
use Rattle.lar_tree.specs.declared.sign.Sign.{Sign}
use Rattle.lar_tree.specs.declared.sign.Sign.TheVariants as sign
use Rattle.lar_tree.specs.declared.token.Kind.TheVariants as kind
use Rattle.lar_tree.specs.declared.expr.Binary.{Binary}
use Rattle.lar_tree.specs.declared.expr.Binary.TheVariants as binary
use Rattle.lar_tree.specs.Exprs.{PlainExpr, number, truth, untruth, paren, new_struct, path, call, field, unary_of, binary_of, binary_sign, height_of, left_height, height}
use Rattle.lar_grammar.specs.Looks.{Look, is_sign, operator}
use Rattle.lar_grammar.specs.Symbols.{level, tails, post, skip, take, when}
use Rattle.lar_grammar.specs.Moves.{expand, next_low, in_reach, operated, path_on}
use Rattle.lar_grammar.proofs.GoingTokens.{same_sign-self, other_sign, at_no}
use Rattle.lar_grammar.proofs.GoesLists.{Ends, ends-are}

-- ---- what may stand behind an expression

-- a sign, if there is one, is above this height
abbrev pub Above : ℕ → Option Binary → Type 0
Above h None = Unit {0}
Above h (Some op) = h < height_of op

-- behind one of height h
pub record Quiet (h : ℕ) (l : Look) : Type 0 where
  pub call : is_sign sign.OpenParen l ≡ false
  pub path : is_sign sign.PathSep l ≡ false
  pub dot : is_sign sign.Dot l ≡ false
  pub above : Above h (operator l)

-- behind an operand, where fields may follow
pub record NotCall (l : Look) : Type 0 where
  pub call : is_sign sign.OpenParen l ≡ false
  pub path : is_sign sign.PathSep l ≡ false

above-less : (h k : ℕ) (o : Option Binary) → k ≤ h → Above h o → Above k o
above-less h k None less a = tt
above-less h k (Some op) less a = omega (arith, a)

pub quieter : (h k : ℕ) (l : Look) → k ≤ h → Quiet h l → Quiet k l
quieter h k l less q = record { call = q.call; path = q.path; dot = q.dot; above = above-less h k (operator l) less q.above }

pub quiet-not_call : (h : ℕ) (l : Look) → Quiet h l → NotCall l
quiet-not_call h l q = record { call = q.call; path = q.path }

pub not_call-at : (s : Sign) → (s ≡ sign.OpenParen → ⊥) → (s ≡ sign.PathSep → ⊥) → NotCall (Some (kind.Sign s))
not_call-at s a b = record { call = other_sign sign.OpenParen s a; path = other_sign sign.PathSep s b }

pub quiet-at : (h : ℕ) (s : Sign) → (s ≡ sign.OpenParen → ⊥) → (s ≡ sign.PathSep → ⊥) → (s ≡ sign.Dot → ⊥) → Above h (operator (Some (kind.Sign s))) → Quiet h (Some (kind.Sign s))
quiet-at h s a b c d = record { call = other_sign sign.OpenParen s a; path = other_sign sign.PathSep s b; dot = other_sign sign.Dot s c; above = d }

pub ends-quiet : (s : Sign) (l : Look) → Quiet 6 (Some (kind.Sign s)) → Ends s l → Quiet 6 l
ends-quiet s l q e = ends-are (Quiet 6) s l (quiet-at 6 sign.Comma (λ e. cc) (λ e. cc) (λ e. cc) tt) q e

-- ---- what is left out

pub skip_post : (l : Look) → is_sign sign.Dot l ≡ false → expand post l ≡ skip
skip_post l e = at_no (is_sign sign.Dot l) _ skip e

contrary : (s : Sign) → is_sign s (Some (kind.Sign s)) ≡ false → ⊥
contrary s e = let same : true ≡ false = sym (same_sign-self s) ∙ e in cc

pub skip_path : (l : Look) → NotCall l → path_on l ≡ skip
skip_path (Some (kind.Sign sign.PathSep)) n = absurd (contrary sign.PathSep n.path)
skip_path (Some (kind.Sign sign.OpenParen)) n = absurd (contrary sign.OpenParen n.call)
skip_path _ n = refl

and-false : (a b : Bool) → b ≡ false → (a && b) ≡ false
and-false true b e = e
and-false false b e = refl

and-true : (a b : Bool) → a ≡ true → b ≡ true → (a && b) ≡ true
and-true true b d e = e
and-true false b d e = cc

out_of_reach : (low h : ℕ) (o : Option Binary) → Above h o → operated low h o ≡ skip
out_of_reach low h None a = refl
out_of_reach low h (Some op) a = at_no (in_reach low h op) _ skip (and-false (nat_le low (height_of op)) _ (lt-leb (height_of op) h a))

pub skip_tails : (low h : ℕ) (l : Look) → Above h (operator l) → expand (tails low h) l ≡ skip
skip_tails low h l a = out_of_reach low h (operator l) a

-- ---- signs

operator-is : (op : Binary) → operator (Some (kind.Sign (binary_sign op))) ≡ Some op
operator-is binary.Or = refl
operator-is binary.And = refl
operator-is binary.Equal = refl
operator-is binary.NotEqual = refl
operator-is binary.Less = refl
operator-is binary.AtMost = refl
operator-is binary.Greater = refl
operator-is binary.AtLeast = refl
operator-is binary.Plus = refl
operator-is binary.Minus = refl
operator-is binary.Star = refl
operator-is binary.Slash = refl
operator-is binary.Percent = refl

-- a sign between operands is none that goes on with an operand
not_operator : (s : Sign) (op : Binary) → operator (Some (kind.Sign s)) ≡ None → binary_sign op ≡ s → ⊥
not_operator s op none e = let same : Some op ≡ None = sym (operator-is op) ∙ ap (λ x. operator (Some (kind.Sign x))) e ∙ none in cc

pub quiet-operator : (op : Binary) (h : ℕ) → h < height_of op → Quiet h (Some (kind.Sign (binary_sign op)))
quiet-operator op h low =
    quiet-at h (binary_sign op) (not_operator sign.OpenParen op refl) (not_operator sign.PathSep op refl) (not_operator sign.Dot op refl) (subst (Above h) (sym (operator-is op)) low)

pub take_tails : (low h : ℕ) (op : Binary) → low ≤ height_of op → height_of op ≤ h → expand (tails low h) (Some (kind.Sign (binary_sign op))) ≡ take (level (height_of op - 1) ∷ tails (next_low op) h ∷ [])
take_tails low h op a b =
    ap (operated low h) (operator-is op)
    ∙ ap (λ x. when x (take (level (height_of op - 1) ∷ tails (next_low op) h ∷ [])) skip) (and-true (nat_le low (height_of op)) (nat_le (height_of op) h) (le-leb low (height_of op) a) (le-leb (height_of op) h b))

-- ---- heights

pub high_enough : (op : Binary) → 2 ≤ height_of op
high_enough binary.Or = omega arith
high_enough binary.And = omega arith
high_enough binary.Equal = omega arith
high_enough binary.NotEqual = omega arith
high_enough binary.Less = omega arith
high_enough binary.AtMost = omega arith
high_enough binary.Greater = omega arith
high_enough binary.AtLeast = omega arith
high_enough binary.Plus = omega arith
high_enough binary.Minus = omega arith
high_enough binary.Star = omega arith
high_enough binary.Slash = omega arith
high_enough binary.Percent = omega arith

pub height_of-bound : (op : Binary) → height_of op ≤ 6
height_of-bound binary.Or = omega arith
height_of-bound binary.And = omega arith
height_of-bound binary.Equal = omega arith
height_of-bound binary.NotEqual = omega arith
height_of-bound binary.Less = omega arith
height_of-bound binary.AtMost = omega arith
height_of-bound binary.Greater = omega arith
height_of-bound binary.AtLeast = omega arith
height_of-bound binary.Plus = omega arith
height_of-bound binary.Minus = omega arith
height_of-bound binary.Star = omega arith
height_of-bound binary.Slash = omega arith
height_of-bound binary.Percent = omega arith

pub left_not_above : (op : Binary) → left_height op ≤ height_of op
left_not_above binary.Or = omega arith
left_not_above binary.And = omega arith
left_not_above binary.Equal = omega arith
left_not_above binary.NotEqual = omega arith
left_not_above binary.Less = omega arith
left_not_above binary.AtMost = omega arith
left_not_above binary.Greater = omega arith
left_not_above binary.AtLeast = omega arith
left_not_above binary.Plus = omega arith
left_not_above binary.Minus = omega arith
left_not_above binary.Star = omega arith
left_not_above binary.Slash = omega arith
left_not_above binary.Percent = omega arith

-- what a comparison may stand to the left of is above it
above_comparison : (op : Binary) → 4 ≤ left_height op → 5 ≤ height_of op
above_comparison binary.Or h = omega arith
above_comparison binary.And h = omega arith
above_comparison binary.Equal h = absurd (omega arith)
above_comparison binary.NotEqual h = absurd (omega arith)
above_comparison binary.Less h = absurd (omega arith)
above_comparison binary.AtMost h = absurd (omega arith)
above_comparison binary.Greater h = absurd (omega arith)
above_comparison binary.AtLeast h = absurd (omega arith)
above_comparison binary.Plus h = absurd (omega arith)
above_comparison binary.Minus h = absurd (omega arith)
above_comparison binary.Star h = absurd (omega arith)
above_comparison binary.Slash h = absurd (omega arith)
above_comparison binary.Percent h = absurd (omega arith)

next_low-is : (op : Binary) → (next_low op ≡ height_of op) ⊎ ((next_low op ≡ 5) × (height_of op ≡ 4))
next_low-is binary.Or = inl refl
next_low-is binary.And = inl refl
next_low-is binary.Equal = inr (refl, refl)
next_low-is binary.NotEqual = inr (refl, refl)
next_low-is binary.Less = inr (refl, refl)
next_low-is binary.AtMost = inr (refl, refl)
next_low-is binary.Greater = inr (refl, refl)
next_low-is binary.AtLeast = inr (refl, refl)
next_low-is binary.Plus = inl refl
next_low-is binary.Minus = inl refl
next_low-is binary.Star = inl refl
next_low-is binary.Slash = inl refl
next_low-is binary.Percent = inl refl

-- the lowest sign that may go on with an expression
abbrev pub low_of : PlainExpr → ℕ
low_of (binary_of l op at r) = next_low op
low_of _ = 2

sign_fits : (before op : Binary) → height_of before ≤ left_height op → next_low before ≤ height_of op
sign_fits before op h = by_low (next_low-is before)
  where
    by_low : (next_low before ≡ height_of before) ⊎ ((next_low before ≡ 5) × (height_of before ≡ 4)) → next_low before ≤ height_of op
    by_low (inl e) = omega (arith, left_not_above op)
    by_low (inr e) = let four : 4 ≤ left_height op = omega (arith, e.1) in omega (arith, e.0, above_comparison op four)

pub low-fits : (l : PlainExpr) (op : Binary) → height l ≤ left_height op → low_of l ≤ height_of op
low-fits (binary_of l before at r) op h = sign_fits before op h
low-fits (number n at) op h = high_enough op
low-fits (truth at) op h = high_enough op
low-fits (untruth at) op h = high_enough op
low-fits (paren from ps to) op h = high_enough op
low-fits (new_struct at p generics from is to) op h = high_enough op
low-fits (path p) op h = high_enough op
low-fits (call p generics from ps to) op h = high_enough op
low-fits (field inner dot s) op h = high_enough op
low-fits (unary_of sign_ at inner) op h = high_enough op
