-- First units by the numbers of their units, and items by those.
use Rattle.std.proofs.Common.{◌≡◌, ◌≢◌, ℕ, ◌+◌, ◌<◌, ◌≤◌, List, [], ◌∷◌, ◌++◌, length, take, get_or, set, refl, sym, ap, ◌∙◌, subst, arith, Bool, true, false, cond, ◌||◌, ⊎_elim, Option, Some, None}
use Rattle.std.specs.Prelude.{filter, nat_eq, slice_get, All, Vec}
use Rattle.std.specs.Global.{Global}
use Rattle.std.specs.List.{AllByRecursion}
use Rattle.std.specs.Cmp.{nat_eq_equiv}
use Rattle.std.proofs.lemmas.Bool.{cases_lt, cases_eq}
use Rattle.std.proofs.lemmas.List.{take_more, get_or_default, length-set, get_or-set_same, get_or-set_other}
use Rattle.std.proofs.lemmas.List.Elements.{filter_more}
use Rattle.std.proofs.lemmas.List.Folds.{list_any-append}
use Rattle.std.proofs.lemmas.Map.Views.{exact_unsigned_eq}
use Rattle.std.proofs.lemmas.Option.{slice_get-get_or, slice_get_within, get_or_from_slice_get}
use Rattle.reach.specs.Reach.{has}
use Rattle.cgu_merge.specs.declared.units.MergedUnit.{MergedUnit}
use Rattle.cgu_copies.proofs.Marks.{unequal}
use Rattle.cgu_partition.specs.Placed.{owned_if, owned}
use Rattle.cgu_partition.specs.Buckets.{has_first, unit_has, AreShared, AreNumbers, number_is, number_if, in_unit, AreHomes}

has_last : (q x : ℕ) (xs : List ℕ) → has nat_eq q (xs ++ x ∷ []) ≡ (has nat_eq q xs || nat_eq q x)
has_last q x xs = list_any-append (nat_eq q) xs (x ∷ []) ∙ ap (λ b. has nat_eq q xs || b) (or_false (nat_eq q x))
  where
    or_false : (b : Bool) → (b || false) ≡ b
    or_false true = refl
    or_false false = refl

-- the places before number i have the number
pub record Numbering (places : List ℕ) (number : ℕ) (start : List ℕ) (i : ℕ) (numbers : List ℕ) : Type 0 where
  pub each : (r : ℕ) → r < length numbers → get_or numbers r 0 ≡ cond (has nat_eq r (take i places)) number (get_or start r 0)

pub numbering_more : (places : List ℕ) (number : ℕ) (start : List ℕ) (i : ℕ) (numbers now : List ℕ) → i < length places → get_or places i 0 < length numbers → Numbering places number start i numbers → now ≡ set numbers (get_or places i 0) number → Numbering places number start (i + 1) now
numbering_more places number start i numbers now room inside h put = subst (Numbering places number start (i + 1)) (sym put) (record { each = λ r l. ⊎_elim (λ same. here r same) (λ apart. there r apart (subst (λ n. r < n) (length-set numbers (get_or places i 0) number) l)) (cases_eq r (get_or places i 0)) })
  where
    front : (r : ℕ) → has nat_eq r (take (i + 1) places) ≡ (has nat_eq r (take i places) || nat_eq r (get_or places i 0))
    front r = ap (has nat_eq r) (take_more places i 0 room) ∙ has_last r (get_or places i 0) (take i places)

    or_right : (a b : Bool) → b ≡ true → (a || b) ≡ true
    or_right true b e = refl
    or_right false b e = e

    or_none : (a b : Bool) → b ≡ false → (a || b) ≡ a
    or_none true b e = refl
    or_none false b e = e

    here : (r : ℕ) → r ≡ get_or places i 0 → get_or (set numbers (get_or places i 0) number) r 0 ≡ cond (has nat_eq r (take (i + 1) places)) number (get_or start r 0)
    here r same =
        let t : nat_eq r (get_or places i 0) ≡ true = subst (λ (n : ℕ). nat_eq r n ≡ true) same (nat_eq_equiv.refl r) in
        ap (λ n. get_or (set numbers (get_or places i 0) number) n 0) same ∙ get_or-set_same numbers (get_or places i 0) number 0 inside ∙ sym (ap (λ b. cond b number (get_or start r 0)) (front r ∙ or_right (has nat_eq r (take i places)) (nat_eq r (get_or places i 0)) t))

    there : (r : ℕ) → r ≢ get_or places i 0 → r < length numbers → get_or (set numbers (get_or places i 0) number) r 0 ≡ cond (has nat_eq r (take (i + 1) places)) number (get_or start r 0)
    there r apart l = get_or-set_other numbers (get_or places i 0) r number 0 apart ∙ h.each r l ∙ sym (ap (λ b. cond b number (get_or start r 0)) (front r ∙ or_none (has nat_eq r (take i places)) (nat_eq r (get_or places i 0)) (unequal r (get_or places i 0) apart)))

-- the first units of the units before number k have their numbers
pub record Numbered (firsts : ℕ) (units : List MergedUnit) (k : ℕ) (numbers : List ℕ) : Type 0 where
  pub count : length numbers ≡ firsts
  pub each : (r : ℕ) → r < firsts → (j : ℕ) → j < k → unit_has units j r ≡ true → unit_has units (get_or numbers r 0) r ≡ true

pub numbered_more : (firsts : ℕ) (units : List MergedUnit) (k : ℕ) (numbers now places : List ℕ) (u : MergedUnit) → k < length units → u ≡ get_or units k u → places ≡ u.firsts.items → length now ≡ length numbers → ((r : ℕ) → r < length numbers → get_or now r 0 ≡ cond (has nat_eq r places) k (get_or numbers r 0)) → Numbered firsts units k numbers → Numbered firsts units (k + 1) now
numbered_more firsts units k numbers now places u room is same len says h = record {
  count = len ∙ h.count;
  each = λ r l j m t. by r l j m t (has nat_eq r u.firsts.items) refl;
}
  where
    at : slice_get units k ≡ Some u
    at = slice_get-get_or units k u room ∙ ap (λ (v : MergedUnit). Some v) (sym is)

    value : (r : ℕ) → r < firsts → (b : Bool) → has nat_eq r u.firsts.items ≡ b → get_or now r 0 ≡ cond b k (get_or numbers r 0)
    value r l b e = says r (omega (arith, h.count)) ∙ ap (λ (x : Bool). cond x k (get_or numbers r 0)) (ap (has nat_eq r) same ∙ e)

    by : (r : ℕ) → r < firsts → (j : ℕ) → j < k + 1 → unit_has units j r ≡ true → (b : Bool) → has nat_eq r u.firsts.items ≡ b → unit_has units (get_or now r 0) r ≡ true
    by r l j m t true e = ap (λ n. unit_has units n r) (value r l true e) ∙ ap (λ o. has_first o r) at ∙ e
    by r l j m t false e = ap (λ n. unit_has units n r) (value r l false e) ∙ ⊎_elim (λ lt. h.each r l j lt t) (λ ge. absurd (let last : j ≡ k = omega arith in let f : unit_has units j r ≡ false = ap (λ n. unit_has units n r) last ∙ ap (λ o. has_first o r) at ∙ e in cc)) (cases_lt j k)

pub numbered_all : (firsts : ℕ) (units : List MergedUnit) (k : ℕ) (numbers : List ℕ) → length units ≤ k → AreShared firsts units → Numbered firsts units k numbers → AreNumbers firsts units numbers
numbered_all firsts units k numbers over shared h = record {
  count = h.count;
  each = λ r l. let s = shared.each r l in let i : s.0 < length units = (s.1).inside in h.each r l s.0 (omega arith) (s.1).there;
}

-- ---- items by the numbers of their units
unit_inside : (units : List MergedUnit) (k r : ℕ) (o : Option MergedUnit) → slice_get units k ≡ o → has_first o r ≡ true → k < length units
unit_inside units k r None at h = cc
unit_inside units k r (Some u) at h = slice_get_within units k u at

pub numbers_inside : (firsts : ℕ) (units : List MergedUnit) (numbers ns : List ℕ) (n : ℕ) → AreNumbers firsts units numbers → ns ≡ numbers → n ≡ length units → All (λ k. k < n) ns
numbers_inside firsts units numbers ns n are same len = λ i d l. let m : i < length numbers = subst (λ (xs : List ℕ). i < length xs) same l in let k : get_or numbers i 0 < length units = unit_inside units (get_or numbers i 0) i (slice_get units (get_or numbers i 0)) refl (are.each i (omega (arith, are.count))) in let e : get_or ns i d ≡ get_or numbers i 0 = ap (λ (xs : List ℕ). get_or xs i d) same ∙ get_or_default numbers i d 0 m in omega arith

pub record Filling (order : List ℕ) (owners : List (Option ℕ)) (numbers : List ℕ) (i : ℕ) (homes : List (Vec ℕ Global)) : Type 0 where
  pub each : (k : ℕ) (d : Vec ℕ Global) → k < length homes → (get_or homes k d).items ≡ filter (in_unit owners numbers k) (take i order)

pub filling_none : (order : List ℕ) (owners : List (Option ℕ)) (numbers : List ℕ) (homes : List (Vec ℕ Global)) → All (λ list. list.items ≡ []) homes → Filling order owners numbers 0 homes
filling_none order owners numbers homes none = record { each = λ k d l. none k d l }

pub filling_more : (order : List ℕ) (owners : List (Option ℕ)) (numbers : List ℕ) (i : ℕ) (homes now : List (Vec ℕ Global)) (o : Option ℕ) → i < length order → slice_get owners (get_or order i 0) ≡ Some o → length now ≡ length homes → ((k : ℕ) (d : Vec ℕ Global) → k < length homes → (get_or now k d).items ≡ (get_or homes k d).items ++ cond (number_is numbers k o) (get_or order i 0 ∷ []) []) → Filling order owners numbers i homes → Filling order owners numbers (i + 1) now
filling_more order owners numbers i homes now o room at len says h = record {
  each = λ k d l. let m : k < length homes = omega (arith, len) in
      says k d m ∙ ap (λ (xs : List ℕ). xs ++ cond (number_is numbers k o) (get_or order i 0 ∷ []) []) (h.each k d m)
      ∙ ap (λ (x : Option (Option ℕ)). filter (in_unit owners numbers k) (take i order) ++ cond (number_if numbers k x) (get_or order i 0 ∷ []) []) (sym at)
      ∙ sym (filter_more (in_unit owners numbers k) order i 0 room);
}

filter_on : (p q : ℕ → Bool) (xs : List ℕ) → AllByRecursion (λ x. p x ≡ q x) xs → filter p xs ≡ filter q xs
filter_on p q [] h = refl
filter_on p q (x ∷ xs) h = ap (λ b. cond b (x ∷ filter p xs) (filter p xs)) h.0 ∙ ap (λ ys. cond (q x) (x ∷ ys) ys) (filter_on p q xs h.1)

module _ (order : List ℕ) (owners : List (Option ℕ)) (units : List MergedUnit) (firsts : ℕ) (numbers : List ℕ) (owned_inside : (p r : ℕ) → slice_get owners p ≡ Some (Some r) → r < firsts) (shared : AreShared firsts units) (are : AreNumbers firsts units numbers) where
  first_is : (k r : ℕ) (u : MergedUnit) → slice_get units k ≡ Some u → r < firsts → (a : Bool) → nat_eq (get_or numbers r 0) k ≡ a → (b : Bool) → has nat_eq r u.firsts.items ≡ b → a ≡ b
  first_is k r u at l true e true f = refl
  first_is k r u at l false e false f = refl
  first_is k r u at l true e false f = absurd (let same : get_or numbers r 0 ≡ k = exact_unsigned_eq (get_or numbers r 0) k e in let t : unit_has units (get_or numbers r 0) r ≡ true = are.each r l in let g : unit_has units (get_or numbers r 0) r ≡ false = ap (λ n. unit_has units n r) same ∙ ap (λ o. has_first o r) at ∙ f in cc)
  first_is k r u at l false e true f =
      absurd (let s = shared.each r l in
      let a : k ≡ s.0 = (s.1).alone k (ap (λ o. has_first o r) at ∙ f) in
      let b : get_or numbers r 0 ≡ s.0 = (s.1).alone (get_or numbers r 0) (are.each r l) in
      let t : nat_eq (get_or numbers r 0) k ≡ true = subst (λ (n : ℕ). nat_eq (get_or numbers r 0) n ≡ true) (b ∙ sym a) (nat_eq_equiv.refl (get_or numbers r 0)) in cc)

  owner_is : (k : ℕ) (u : MergedUnit) → slice_get units k ≡ Some u → (p : ℕ) (o : Option (Option ℕ)) → slice_get owners p ≡ o → number_if numbers k o ≡ owned_if u.firsts.items o
  owner_is k u at p None is = refl
  owner_is k u at p (Some None) is = refl
  owner_is k u at p (Some (Some r)) is = first_is k r u at (owned_inside p r is) (nat_eq (get_or numbers r 0) k) refl (has nat_eq r u.firsts.items) refl

  owners_are : (k : ℕ) (u : MergedUnit) → slice_get units k ≡ Some u → (ps : List ℕ) → AllByRecursion (λ p. in_unit owners numbers k p ≡ owned owners u.firsts.items p) ps
  owners_are k u at [] = tt
  owners_are k u at (p ∷ ps) = (owner_is k u at p (slice_get owners p) refl, owners_are k u at ps)

  pub homes_are : (homes : List (Vec ℕ Global)) → length homes ≡ length units → ((k : ℕ) (d : Vec ℕ Global) → k < length homes → (get_or homes k d).items ≡ filter (in_unit owners numbers k) order) → AreHomes order owners units homes
  homes_are homes len each = record {
    count = len;
    each = λ k u h at there. ap (λ (v : Vec ℕ Global). v.items) (sym (get_or_from_slice_get homes k h h there)) ∙ each k h (slice_get_within homes k h there) ∙ filter_on (in_unit owners numbers k) (owned owners u.firsts.items) order (owners_are k u at order);
  }
