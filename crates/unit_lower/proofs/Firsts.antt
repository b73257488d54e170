-- The first slots of locals.
use Rattle.std.proofs.Common.{◌≡◌, ℕ, ◌+◌, ◌<◌, ◌≤◌, List, [], ◌∷◌, ◌++◌, length, take, get_or, refl, sym, ap, ◌∙◌, arith, inl, inr}
use Rattle.std.specs.Prelude.{sum}
use Rattle.std.proofs.lemmas.Bool.{cases_lt}
use Rattle.std.proofs.lemmas.List.{get_or_append_left}
use Rattle.std.proofs.lemmas.List.Sums.{sum_by_more, sum_by-take-le}
use Rattle.unit_lower.specs.ScopeView.{ArePlaced}
use Rattle.std.proofs.Math.Seq.{get_or-append_seam, take-length}

pub sum_more : (xs : List ℕ) (i d : ℕ) → i < length xs → sum (take (i + 1) xs) ≡ sum (take i xs) + get_or xs i d
sum_more xs i d h = sum_by_more (λ x. x) xs i d h

pub sum_front : (xs : List ℕ) (i : ℕ) → sum (take i xs) ≤ sum xs
sum_front xs i = sum_by-take-le (λ x. x) xs i

pub sum_all : (xs : List ℕ) → sum (take (length xs) xs) ≡ sum xs
sum_all xs = ap sum (take-length xs)

-- a local has no more words than all have
pub part_of_sum : (xs : List ℕ) (n d : ℕ) → n < length xs → get_or xs n d ≤ sum xs
part_of_sum xs n d h = omega (arith, sum_more xs n d h, sum_front xs (n + 1))

pub narrow_local : (xs firsts : List ℕ) (n d : ℕ) → ArePlaced xs firsts → n < length xs → get_or xs n d < 256
narrow_local xs firsts n d placed h = omega (arith, part_of_sum xs n d h, placed.narrow)

pub narrow_slots : (xs firsts : List ℕ) (n d : ℕ) → ArePlaced xs firsts → n < length xs → sum (take n xs) + get_or xs n d ≤ 255
narrow_slots xs firsts n d placed h = omega (arith, sum_more xs n d h, sum_front xs (n + 1), placed.narrow)

-- one more local whose first slot is known
pub one_first : (xs firsts : List ℕ) (i next : ℕ) → length firsts ≡ i → next ≡ sum (take i xs) → ((n d : ℕ) → n < i → get_or firsts n d ≡ sum (take n xs))
    → (n d : ℕ) → n < i + 1 → get_or (firsts ++ next ∷ []) n d ≡ sum (take n xs)
one_first xs firsts i next len is so_far n d h = elim (cases_lt n i) [
  | inl below ↦ get_or_append_left firsts (next ∷ []) d n (omega (arith, below, len)) ∙ so_far n d below
  | inr above ↦
      let same : n ≡ length firsts = omega (arith, h, above, len) in
      let at : n ≡ i = omega (arith, h, above) in
      ap (λ k. get_or (firsts ++ next ∷ []) k d) same ∙ get_or-append_seam firsts next [] d ∙ is ∙ ap (λ k. sum (take k xs)) (sym at)
]
