-- Merging loses no first unit, and takes none twice.
use Rattle.std.proofs.Common.{◌≡◌, ℕ, zero, suc, ◌+◌, ◌-◌, ◌<◌, ◌≤◌, List, [], ◌∷◌, ◌++◌, length, refl, sym, ap, ◌∙◌, subst, arith, Bool, true, false, cond, ◌||◌, Some}
use Rattle.std.specs.Prelude.{slice_get, nat_eq}
use Rattle.std.proofs.lemmas.Bool.Decides.{nat_tests}
use Rattle.reach.specs.Reach.{has}
use Rattle.cgu_merge.specs.Merging.{Merged, placed, in_order, larger, later, joined, join_least, joins, merged, firsts, merged_units}

abbrev one_if : Bool → ℕ
one_if true = 1
one_if false = 0

-- how often a place stands in a list
abbrev pub tally : ℕ → List ℕ → ℕ
tally r [] = 0
tally r (x ∷ xs) = one_if (nat_eq r x) + tally r xs

-- how often it stands among the first units of units
abbrev pub total : ℕ → List Merged → ℕ
total r [] = 0
total r (u ∷ us) = tally r u.firsts + total r us

tally_append : (r : ℕ) (xs ys : List ℕ) → tally r (xs ++ ys) ≡ tally r xs + tally r ys
tally_append r [] ys = omega arith
tally_append r (x ∷ xs) ys = let e = tally_append r xs ys in omega arith

total_placed : (r : ℕ) (after : Merged → Merged → Bool) (u : Merged) (xs : List Merged) → total r (placed after u xs) ≡ tally r u.firsts + total r xs
total_placed r after u [] = refl
total_placed r after u (x ∷ xs) = by (after u x) (total_placed r after u xs)
  where
    by : (b : Bool) → total r (placed after u xs) ≡ tally r u.firsts + total r xs → total r (cond b (x ∷ placed after u xs) (u ∷ x ∷ xs)) ≡ tally r u.firsts + total r (x ∷ xs)
    by true h = omega arith
    by false h = refl

total_order : (r : ℕ) (after : Merged → Merged → Bool) (us xs : List Merged) → total r (in_order after us xs) ≡ total r us + total r xs
total_order r after us [] = omega arith
total_order r after us (x ∷ xs) = let a = total_order r after (placed after x us) xs in let b = total_placed r after x us in omega arith

total_least : (r : ℕ) (names : List (List ℕ)) (us : List Merged) → total r (join_least names us) ≡ total r us
total_least r names [] = refl
total_least r names (a ∷ []) = refl
total_least r names (a ∷ b ∷ us) =
    let p : total r (placed (larger names) (joined a b) us) ≡ tally r (joined a b).firsts + total r us = total_placed r (larger names) (joined a b) us in
    let q : tally r (a.firsts ++ b.firsts) ≡ tally r a.firsts + tally r b.firsts = tally_append r a.firsts b.firsts in
    omega arith

total_joins : (r : ℕ) (names : List (List ℕ)) (n : ℕ) (us : List Merged) → total r (joins names n us) ≡ total r us
total_joins r names zero us = refl
total_joins r names (suc n) us = total_joins r names n (join_least names us) ∙ total_least r names us

total_merged : (r : ℕ) (names : List (List ℕ)) (limit : ℕ) (us : List Merged) → total r (merged names limit us) ≡ total r us
unfolding merged
total_merged r names limit us = total_joins r names (length us - limit) us

none_before : (r place : ℕ) (sizes : List ℕ) → r < place → total r (firsts place sizes) ≡ 0
none_before r place [] l = refl
none_before r place (s ∷ sizes) l =
    let e = none_before r (place + 1) sizes (omega arith) in
    let n : nat_eq r place ≡ false = grind (arith, nat_tests) in
    let c : one_if (nat_eq r place) ≡ 0 = ap one_if n in
    omega arith

one_of_firsts : (r place : ℕ) (sizes : List ℕ) → place ≤ r → r < place + length sizes → total r (firsts place sizes) ≡ 1
one_of_firsts r place [] l m = absurd (omega arith)
one_of_firsts r place (s ∷ sizes) l m = by (nat_eq r place) refl (λ p q. one_of_firsts r (place + 1) sizes p q)
  where
    by : (b : Bool) → nat_eq r place ≡ b → (place + 1 ≤ r → r < place + 1 + length sizes → total r (firsts (place + 1) sizes) ≡ 1) → total r (firsts place (s ∷ sizes)) ≡ 1
    by true is rest =
        let same : r ≡ place = grind (arith, nat_tests) in
        let e = none_before r (place + 1) sizes (omega arith) in
        let c : one_if (nat_eq r place) ≡ 1 = ap one_if is in
        omega arith
    by false is rest =
        let more : place < r = grind (arith, nat_tests) in
        let e = rest (omega arith) (omega arith) in
        let c : one_if (nat_eq r place) ≡ 0 = ap one_if is in
        omega arith

-- each place stands once among the first units of all units
pub total_units : (r : ℕ) (names : List (List ℕ)) (sizes : List ℕ) (limit : ℕ) → r < length sizes → total r (merged_units names sizes limit) ≡ 1
unfolding merged_units
total_units r names sizes limit l =
    let a = total_order r (later names) [] (merged names limit (in_order (larger names) [] (firsts 0 sizes))) in
    let b = total_merged r names limit (in_order (larger names) [] (firsts 0 sizes)) in
    let c = total_order r (larger names) [] (firsts 0 sizes) in
    let d = one_of_firsts r 0 sizes (omega arith) (omega arith) in
    omega arith

has_some : (r : ℕ) (xs : List ℕ) → has nat_eq r xs ≡ true → 1 ≤ tally r xs
has_some r [] h = cc
has_some r (x ∷ xs) h = by (nat_eq r x) refl h (has_some r xs)
  where
    by : (b : Bool) → nat_eq r x ≡ b → (b || has nat_eq r xs) ≡ true → (has nat_eq r xs ≡ true → 1 ≤ tally r xs) → 1 ≤ tally r (x ∷ xs)
    by true is h rest = let c : one_if (nat_eq r x) ≡ 1 = ap one_if is in omega arith
    by false is h rest = let e = rest h in omega arith

has_none : (r : ℕ) (xs : List ℕ) → has nat_eq r xs ≡ false → tally r xs ≡ 0
has_none r [] h = refl
has_none r (x ∷ xs) h = by (nat_eq r x) refl h (has_none r xs)
  where
    by : (b : Bool) → nat_eq r x ≡ b → (b || has nat_eq r xs) ≡ false → (has nat_eq r xs ≡ false → tally r xs ≡ 0) → tally r (x ∷ xs) ≡ 0
    by true is h rest = cc
    by false is h rest = let e = rest h in let c : one_if (nat_eq r x) ≡ 0 = ap one_if is in omega arith

-- one unit has the place among its first units, and no other
pub record OneUnit (r : ℕ) (us : List Merged) : Type 0 where
  pub at : ℕ
  pub u : Merged
  pub there : slice_get us at ≡ Some u
  pub has_it : has nat_eq r u.firsts ≡ true
  pub alone : (k : ℕ) (v : Merged) → slice_get us k ≡ Some v → has nat_eq r v.firsts ≡ true → k ≡ at

none_has : (r : ℕ) (us : List Merged) (k : ℕ) (v : Merged) → total r us ≡ 0 → slice_get us k ≡ Some v → has nat_eq r v.firsts ≡ true → ⊥
none_has r [] k v z at h = cc
none_has r (u ∷ us) zero v z at h = let same : u ≡ v = cc in let s : 1 ≤ tally r u.firsts = has_some r u.firsts (subst (λ (w : Merged). has nat_eq r w.firsts ≡ true) (sym same) h) in omega arith
none_has r (u ∷ us) (suc k) v z at h = none_has r us k v (omega arith) at h

pub one_unit : (r : ℕ) (us : List Merged) → total r us ≡ 1 → OneUnit r us
one_unit r [] t = absurd (omega arith)
one_unit r (u ∷ us) t = by (has nat_eq r u.firsts) refl (one_unit r us)
  where
    others : has nat_eq r u.firsts ≡ true → (k : ℕ) (v : Merged) → slice_get (u ∷ us) k ≡ Some v → has nat_eq r v.firsts ≡ true → k ≡ 0
    others is zero v at h = refl
    others is (suc k) v at h = absurd (let s = has_some r u.firsts is in none_has r us k v (omega arith) at h)

    rest : has nat_eq r u.firsts ≡ false → (o : OneUnit r us) (k : ℕ) (v : Merged) → slice_get (u ∷ us) k ≡ Some v → has nat_eq r v.firsts ≡ true → k ≡ suc o.at
    rest is o zero v at h = let same : u ≡ v = cc in let t : has nat_eq r u.firsts ≡ true = subst (λ (w : Merged). has nat_eq r w.firsts ≡ true) (sym same) h in absurd (cc)
    rest is o (suc k) v at h = ap suc (o.alone k v at h)

    by : (b : Bool) → has nat_eq r u.firsts ≡ b → (total r us ≡ 1 → OneUnit r us) → OneUnit r (u ∷ us)
    by true is f = record { at = 0; u = u; there = refl; has_it = is; alone = others is }
    by false is f = let z = has_none r u.firsts is in let o = f (omega arith) in record { at = suc o.at; u = o.u; there = o.there; has_it = o.has_it; alone = rest is o }
