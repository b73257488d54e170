-- How high the operands of a sign are, and what may follow a sign's right operand.
use Rattle.std.proofs.Common.{◌≡◌, ℕ, ◌+◌, ◌-◌, ◌≤◌, ◌⊎◌, inl, inr, Bool, true, false, refl, arith}
use Rattle.std.specs.Prelude.{◌&&◌, nat_le}
use Rattle.std.proofs.lemmas.Bool.{leb-true}
use Rattle.lar_source.specs.declared.file.Span.{Span}
use Rattle.lar_tree.specs.declared.expr.Binary.{Binary}
use Rattle.lar_tree.specs.declared.expr.Binary.TheVariants as binary
use Rattle.lar_tree.specs.Exprs.{PlainExpr, binary_of, height, height_of, left_height}
use Rattle.lar_grammar.specs.Moves.{next_low, in_reach}
use Rattle.lar_grammar.proofs.Meaning.{Fits, at_least_one}

both : (a b : Bool) → (a && b) ≡ true → (a ≡ true) × (b ≡ true)
both true b e = (refl, e)
both false b e = cc

pub reached : (low h : ℕ) (op : Binary) → in_reach low h op ≡ true → (low ≤ height_of op) × (height_of op ≤ h)
reached low h op e =
    let d = both (nat_le low (height_of op)) (nat_le (height_of op) h) e in
    (leb-true low (height_of op) d.0, leb-true (height_of op) h d.1)

-- the left operand is as high as the sign, or the sign is a comparison
side : (op : Binary) → (left_height op ≡ height_of op) ⊎ ((left_height op ≡ 3) × (height_of op ≡ 4))
side binary.Star = inl refl
side binary.Slash = inl refl
side binary.Percent = inl refl
side binary.Plus = inl refl
side binary.Minus = inl refl
side binary.Equal = inr (refl, refl)
side binary.NotEqual = inr (refl, refl)
side binary.Less = inr (refl, refl)
side binary.AtMost = inr (refl, refl)
side binary.Greater = inr (refl, refl)
side binary.AtLeast = inr (refl, refl)
side binary.And = inl refl
side binary.Or = inl refl

-- a sign's own height, and from where on signs may follow
pub data Next (own low : ℕ) : Type 0 where
  below : own ≡ low → own ≤ 3 → Next own low
  above : own ≤ low → 5 ≤ low → Next own low

follows : (op : Binary) → Next (height_of op) (next_low op)
follows binary.Star = below refl (omega arith)
follows binary.Slash = below refl (omega arith)
follows binary.Percent = below refl (omega arith)
follows binary.Plus = below refl (omega arith)
follows binary.Minus = below refl (omega arith)
follows binary.Equal = above (omega arith) (omega arith)
follows binary.NotEqual = above (omega arith) (omega arith)
follows binary.Less = above (omega arith) (omega arith)
follows binary.AtMost = above (omega arith) (omega arith)
follows binary.Greater = above (omega arith) (omega arith)
follows binary.AtLeast = above (omega arith) (omega arith)
follows binary.And = above (omega arith) (omega arith)
follows binary.Or = above (omega arith) (omega arith)

fits_beside : (own low on left : ℕ) → Next own low → (left ≡ on) ⊎ ((left ≡ 3) × (on ≡ 4)) → low ≤ on → own ≤ left
fits_beside own low on left (below a b) (inl e) p = omega arith
fits_beside own low on left (below a b) (inr e) p = omega (arith, e.0, e.1)
fits_beside own low on left (above a b) (inl e) p = omega arith
fits_beside own low on left (above a b) (inr e) p = absurd (omega (arith, e.0, e.1))

-- a tree of a sign fits before those that may follow
pub fits_next : (op : Binary) (l r : PlainExpr) (at : Span) → Fits (next_low op) (binary_of l op at r)
fits_next op l r at next p = fits_beside (height_of op) (next_low op) (height_of next) (left_height next) (follows op) (side next) p

-- an operand fits before each sign
pub fits_operand : (e : PlainExpr) → height e ≤ 1 → Fits 2 e
fits_operand e a op p = fits_beside_operand (height e) (height_of op) (left_height op) (side op) a p
  where
    fits_beside_operand : (own on left : ℕ) → (left ≡ on) ⊎ ((left ≡ 3) × (on ≡ 4)) → own ≤ 1 → 2 ≤ on → own ≤ left
    fits_beside_operand own on left (inl x) q r = omega arith
    fits_beside_operand own on left (inr x) q r = omega (arith, x.0, x.1)

pub two_or_more : (op : Binary) → 2 ≤ height_of op
two_or_more binary.Star = omega arith
two_or_more binary.Slash = omega arith
two_or_more binary.Percent = omega arith
two_or_more binary.Plus = omega arith
two_or_more binary.Minus = omega arith
two_or_more binary.Equal = omega arith
two_or_more binary.NotEqual = omega arith
two_or_more binary.Less = omega arith
two_or_more binary.AtMost = omega arith
two_or_more binary.Greater = omega arith
two_or_more binary.AtLeast = omega arith
two_or_more binary.And = omega arith
two_or_more binary.Or = omega arith

-- the right operand is lower than its sign
pub right_below : (op : Binary) (a : ℕ) → a ≤ at_least_one (height_of op - 1) → a + 1 ≤ height_of op
right_below op a p = below_own (height_of op) a (two_or_more op) p
  where
    below_own : (own n : ℕ) → 2 ≤ own → n ≤ 1 + ((own - 1) - 1) → n + 1 ≤ own
    below_own own n q r = omega arith
