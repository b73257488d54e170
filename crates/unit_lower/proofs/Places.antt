-- Locals and their parts lie in the slots of the locals.
use Rattle.std.proofs.Common.{◌≡◌, ℕ, zero, suc, ◌+◌, ◌<◌, ◌≤◌, List, length, take, get_or, Bool, true, false, ◌&&◌, ◌||◌, Option, Some, None, refl, sym, ap, ◌∙◌, subst, arith, inl, inr}
use Rattle.std.specs.Prelude.{sum, nat_lt, nat_le, slice_index}
use Rattle.std.proofs.lemmas.Bool.{ltb-true, ltb-false, leb-true, lt-leb, and_parts, or_parts, or_cases}
use Rattle.std.proofs.lemmas.List.Sums.{sum_by_more, sum_by-take-le}
use Rattle.unit_input.specs.Exprs.{PlainExpr, int, truth, local, field, tuple, unary, binary, call, PlainExprs}
use Rattle.unit_input.specs.Widths.{Scope, cut, width, total_width}
use Rattle.unit_input.specs.Rules.{is_width, is_part, is_expr}
use Rattle.unit_lower.specs.Slots.{first_slot, local_slots, moved, place}
use Rattle.unit_lower.specs.Wide.{is_over, is_wide, are_wide}

-- a local lies in its slots
pub local_within : (s : Scope) (n : ℕ) → n < length s.locals → first_slot s n + slice_index s.locals n ≤ local_slots s
local_within s n below =
    let more : sum (take (n + 1) s.locals) ≡ first_slot s n + slice_index s.locals n = sum_by_more (λ x. x) s.locals n 0 below in
    let le : sum (take (n + 1) s.locals) ≤ local_slots s = sum_by-take-le (λ x. x) s.locals (n + 1) in
    omega (arith, more, le)

-- a part of a value that is no wider than 255 words lies in it
pub part_within : (offset wide whole : ℕ) → is_part offset wide whole ≡ true → whole ≤ 255 → offset + wide ≤ whole
part_within offset wide whole ok low =
    let either = (and_parts (is_width offset && is_width wide) (nat_le 256 whole || nat_le (offset + wide) whole) ok).1 in
    elim (or_cases (nat_le 256 whole) (nat_le (offset + wide) whole) either) [
      | inl over ↦ let le : 256 ≤ whole = leb-true 256 whole over in absurd (omega (arith, low, le))
      | inr within ↦ leb-true (offset + wide) whole within
    ]

pub low_width : (n : ℕ) → is_over n ≡ false → n ≤ 255
low_width n h = ltb-false 255 n h

-- what is not wide has at most 255 words
pub narrow_width : (s : Scope) (e : PlainExpr) → is_wide s e ≡ false → width s e ≤ 255
narrow_width s (int v) h = omega arith
narrow_width s (truth b) h = omega arith
narrow_width s (local n) h = low_width (width s (local n)) h
narrow_width s (field e offset wide) h = low_width wide (or_parts (is_over wide) (is_wide s e) h).0
narrow_width s (tuple es) h =
    let low : total_width s es ≤ 255 = low_width (total_width s es) (or_parts (is_over (total_width s es)) (are_wide s es) h).0 in
    omega (arith, low)
narrow_width s (unary op e) h = omega arith
narrow_width s (binary op a b) h = omega arith
narrow_width s (call k es) h = low_width (width s (call k es)) (or_parts (is_over (width s (call k es))) (is_over (total_width s es)) (or_parts (is_over (width s (call k es)) || is_over (total_width s es)) (are_wide s es) h).0).0

-- and its parts are the sum of their words
pub narrow_total : (s : Scope) (es : PlainExprs) → is_over (total_width s es) ≡ false → cut (total_width s es) ≡ total_width s es
narrow_total s es h = let low : total_width s es ≤ 255 = low_width (total_width s es) h in omega (arith, low)

pub is_moved : (offset slot : ℕ) (at : Option ℕ) → moved offset at ≡ Some slot → (from : ℕ) × (at ≡ Some from) × (slot ≡ from + offset)
is_moved offset slot None h = cc
is_moved offset slot (Some from) h = (from, refl, cc)

-- a value that is a local or a part of one lies in the slots of the locals
pub place_within : (s : Scope) (e : PlainExpr) (slot : ℕ) → is_expr s e ≡ true → is_wide s e ≡ false → place s e ≡ Some slot → slot + width s e ≤ local_slots s
place_within s (int v) slot ok low is = cc
place_within s (truth b) slot ok low is = cc
place_within s (local n) slot ok low is =
    let below : n < length s.locals = ltb-true n (length s.locals) ok in
    let same : first_slot s n ≡ slot = cc in
    omega (arith, local_within s n below, same)
place_within s (field e offset wide) slot ok low is =
    let parts = and_parts (is_part offset wide (width s e)) (is_expr s e) ok in
    let narrow = or_parts (is_over wide) (is_wide s e) low in
    let from = is_moved offset slot (place s e) is in
    let within = place_within s e from.0 parts.1 narrow.1 from.1 in
    let part = part_within offset wide (width s e) parts.0 (narrow_width s e narrow.1) in
    omega (arith, within, part, from.2)
place_within s (tuple es) slot ok low is = cc
place_within s (unary op e) slot ok low is = cc
place_within s (binary op a b) slot ok low is = cc
place_within s (call k es) slot ok low is = cc
