-- Symbols that stand once, and the set by which they are found.
use Rattle.std.proofs.Common.{◌≡◌, ℕ, Bool, true, false, cond, ◌||◌, List, [], ◌∷◌, ◌++◌, refl, sym, ap, ◌∙◌, inl, inr}
use Rattle.std.specs.List.{AllByRecursion, IsDistinct}
use Rattle.std.specs.Str.{bytes_eq}
use Rattle.std.specs.Ordering.{nat_cmp}
use Rattle.std.specs.Cmp.Lexicographic.{slice_cmp}
use Rattle.std.specs.BTreeSet.{BTreeSet, contains_by, UpdatesBy}
use Rattle.std.proofs.lemmas.Bool.{cases_Bool, or_parts, or_from}
use Rattle.std.proofs.lemmas.Map.Text.{is_eq-slice_cmp}
use Rattle.std.proofs.lemmas.Slice.Eq.{bytes_eq-Decides}
use Rattle.object_format.specs.ObjectReading.{is_among}
use denote.Ref.{Bor}

-- ---- equality of texts goes both ways

one_way : (a b : List ℕ) → bytes_eq a b ≡ true → bytes_eq b a ≡ true
one_way a b h = (bytes_eq-Decides b a).1 (sym ((bytes_eq-Decides a b).0 h))

pub bytes_eq-turned : (a b : List ℕ) → bytes_eq a b ≡ bytes_eq b a
bytes_eq-turned a b =
    elim (cases_Bool (bytes_eq a b)) [
      | inl same ↦ same ∙ sym (one_way a b same)
      | inr other ↦
          elim (cases_Bool (bytes_eq b a)) [
            | inl same ↦ one_way b a same ∙ sym same
            | inr also ↦ other ∙ sym also
          ]
    ]

-- ---- a symbol more

or_first : (a b c : Bool) → (a || cond b true c) ≡ cond b true (a || c)
or_first true true c = refl
or_first true false c = refl
or_first false true c = refl
or_first false false c = refl

-- what is found among symbols with one more, wherever that stands
pub is_among-more : (xs ys : List (List ℕ)) (s q : List ℕ) → is_among (xs ++ s ∷ ys) q ≡ cond (bytes_eq s q) true (is_among (xs ++ ys) q)
is_among-more [] ys s q = ap (λ (b : Bool). b || is_among ys q) (bytes_eq-turned q s) ∙ by_cases (bytes_eq s q) (is_among ys q)
  where
    by_cases : (a b : Bool) → (a || b) ≡ cond a true b
    by_cases true b = refl
    by_cases false b = refl
is_among-more (x ∷ xs) ys s q = ap (λ (b : Bool). bytes_eq q x || b) (is_among-more xs ys s q) ∙ or_first (bytes_eq q x) (bytes_eq s q) (is_among (xs ++ ys) q)

-- a set that had symbols and was given one more has them and that one
pub holds-more : (set new : BTreeSet (Bor (List ℕ))) (xs ys : List (List ℕ)) (s : List ℕ) → UpdatesBy (λ x y. slice_cmp nat_cmp x.now y.now) (λ k. slice_cmp nat_cmp s k.now) set new true
    → ((q : List ℕ) → contains_by (λ k. slice_cmp nat_cmp q k.now) set ≡ is_among (xs ++ ys) q) → (q : List ℕ) → contains_by (λ k. slice_cmp nat_cmp q k.now) new ≡ is_among (xs ++ s ∷ ys) q
holds-more set new xs ys s updates held q =
    updates.0 (record { ref_ptr = (0, 0); now = q })
    ∙ ap (λ (b : Bool). cond b true (contains_by (λ k. slice_cmp nat_cmp q k.now) set)) (is_eq-slice_cmp s q)
    ∙ ap (cond (bytes_eq s q) true) (held q)
    ∙ sym (is_among-more xs ys s q)

-- ---- distinct symbols

-- a symbol that is new stays distinct from the others, wherever it stands
none_like : (s : List ℕ) (ys : List (List ℕ)) → is_among ys s ≡ false → AllByRecursion (λ y. bytes_eq s y ≡ false) ys
none_like s [] h = tt
none_like s (y ∷ ys) h = let parts = or_parts (bytes_eq s y) (is_among ys s) h in (parts.0, none_like s ys parts.1)

none_more : (x s : List ℕ) (xs ys : List (List ℕ)) → bytes_eq x s ≡ false → AllByRecursion (λ y. bytes_eq x y ≡ false) (xs ++ ys) → AllByRecursion (λ y. bytes_eq x y ≡ false) (xs ++ s ∷ ys)
none_more x s [] ys other h = (other, h)
none_more x s (z ∷ xs) ys other h = (h.0, none_more x s xs ys other h.1)

pub distinct-more : (xs ys : List (List ℕ)) (s : List ℕ) → IsDistinct bytes_eq (xs ++ ys) → is_among (xs ++ ys) s ≡ false → IsDistinct bytes_eq (xs ++ s ∷ ys)
unfolding IsDistinct
distinct-more [] ys s h new = (none_like s ys new, h)
distinct-more (x ∷ xs) ys s h new =
    let parts = or_parts (bytes_eq s x) (is_among (xs ++ ys) s) new in
    (none_more x s xs ys (bytes_eq-turned x s ∙ parts.0) h.0, distinct-more xs ys s h.1 parts.1)

at_middle : (x s : List ℕ) (xs ys : List (List ℕ)) → AllByRecursion (λ y. bytes_eq x y ≡ false) (xs ++ s ∷ ys) → bytes_eq x s ≡ false
at_middle x s [] ys h = h.0
at_middle x s (z ∷ xs) ys h = at_middle x s xs ys h.1

-- of distinct symbols none is among those before it
pub is_new : (xs ys : List (List ℕ)) (s : List ℕ) → IsDistinct bytes_eq (xs ++ s ∷ ys) → is_among xs s ≡ false
unfolding IsDistinct
is_new [] ys s h = refl
is_new (x ∷ xs) ys s h = or_from (bytes_eq s x) (is_among xs s) (bytes_eq-turned s x ∙ at_middle x s xs ys h.0) (is_new xs ys s h.1)

pub distinct-none : IsDistinct bytes_eq []
unfolding IsDistinct
distinct-none = tt

-- the first of distinct symbols are distinct
all_front : (x : List ℕ) (xs ys : List (List ℕ)) → AllByRecursion (λ y. bytes_eq x y ≡ false) (xs ++ ys) → AllByRecursion (λ y. bytes_eq x y ≡ false) xs
all_front x [] ys h = tt
all_front x (z ∷ xs) ys h = (h.0, all_front x xs ys h.1)

pub distinct-front : (xs ys : List (List ℕ)) → IsDistinct bytes_eq (xs ++ ys) → IsDistinct bytes_eq xs
unfolding IsDistinct
distinct-front [] ys h = tt
distinct-front (x ∷ xs) ys h = (all_front x xs ys h.0, distinct-front xs ys h.1)
