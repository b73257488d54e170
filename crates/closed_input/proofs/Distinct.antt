-- Lists of numbers without repeats.
use Rattle.std.proofs.Common.{◌≡◌, ℕ, zero, suc, ◌<◌, ◌≤◌, List, [], ◌∷◌, ◌++◌, length, map, drop, refl, sym, ap, ◌∙◌, subst, Bool, true, false, cond, ◌||◌, Some, ◌⊎◌, inl, inr}
use Rattle.std.specs.Prelude.{slice_get, nat_eq}
use Rattle.std.specs.List.{flat_map, AllByRecursion, IsDistinct}
use Rattle.std.specs.Cmp.{nat_eq_equiv}
use Rattle.std.proofs.lemmas.Map.Views.{exact_unsigned_eq}
use Rattle.std.proofs.lemmas.Map.Keys.{IsDistinct-head, IsDistinct-tail, IsDistinct-cons}
use Rattle.std.proofs.lemmas.Map.Steps.{length-le_from_distinct_below}
use Rattle.reach.specs.Reach.{has, with, added}

pub nat_same : (x : ℕ) → nat_eq x x ≡ true
nat_same x = nat_eq_equiv.refl x

-- ---- what holds of each
pub all_append : {A : Type 0} (P : A → Type 0) (xs ys : List A) → AllByRecursion P xs → AllByRecursion P ys → AllByRecursion P (xs ++ ys)
all_append P [] ys p q = q
all_append P (x ∷ xs) ys p q = (p.0, all_append P xs ys p.1 q)

pub all_front : {A : Type 0} (P : A → Type 0) (xs ys : List A) → AllByRecursion P (xs ++ ys) → AllByRecursion P xs
all_front P [] ys p = tt
all_front P (x ∷ xs) ys p = (p.0, all_front P xs ys p.1)

pub all_back : {A : Type 0} (P : A → Type 0) (xs ys : List A) → AllByRecursion P (xs ++ ys) → AllByRecursion P ys
all_back P [] ys p = p
all_back P (x ∷ xs) ys p = all_back P xs ys p.1

pub all_at : {A : Type 0} (P : A → Type 0) (xs : List A) (i : ℕ) (x : A) → AllByRecursion P xs → slice_get xs i ≡ Some x → P x
all_at P [] i x p h = cc
all_at P (y ∷ ys) zero x p h = let same : y ≡ x = cc in subst P same p.0
all_at P (y ∷ ys) (suc i) x p h = all_at P ys i x p.1 h

pub all_from : {A : Type 0} (P : A → Type 0) (xs : List A) → ((i : ℕ) (x : A) → slice_get xs i ≡ Some x → P x) → AllByRecursion P xs
all_from P [] h = tt
all_from P (x ∷ xs) h = (h 0 x refl, all_from P xs (λ i y e. h (suc i) y e))

pub all_map : {A B : Type 0} (P : B → Type 0) (g : A → B) (xs : List A) → AllByRecursion (λ x. P (g x)) xs → AllByRecursion P (map g xs)
all_map P g [] h = tt
all_map P g (x ∷ xs) h = (h.0, all_map P g xs h.1)

pub all_with : {A : Type 0} (P Q : A → Type 0) (xs : List A) → ((x : A) → P x → Q x) → AllByRecursion P xs → AllByRecursion Q xs
all_with P Q [] f h = tt
all_with P Q (x ∷ xs) f h = (f x h.0, all_with P Q xs f h.1)

pub all_flat : {A B : Type 0} (P : B → Type 0) (g : A → List B) (xs : List A) → AllByRecursion (λ x. AllByRecursion P (g x)) xs → AllByRecursion P (flat_map g xs)
all_flat P g [] h = tt
all_flat P g (x ∷ xs) h = all_append P (g x) (flat_map g xs) h.0 (all_flat P g xs h.1)

pub all_added : (P : ℕ → Type 0) (us xs : List ℕ) → AllByRecursion P us → AllByRecursion P xs → AllByRecursion P (added nat_eq us xs)
all_added P us [] p q = p
all_added P us (x ∷ xs) p q = all_added P (with nat_eq us x) xs (by (has nat_eq x us)) q.1
  where
    by : (b : Bool) → AllByRecursion P (cond b us (us ++ x ∷ []))
    by true = p
    by false = all_append P us (x ∷ []) p (q.0, tt)

-- ---- members
-- a member has a place
pub place_of : (q : ℕ) (xs : List ℕ) → has nat_eq q xs ≡ true → (j : ℕ) × (slice_get xs j ≡ Some q)
place_of q [] h = cc
place_of q (x ∷ xs) h = by (nat_eq q x) refl h (place_of q xs)
  where
    by : (b : Bool) → nat_eq q x ≡ b → (b || has nat_eq q xs) ≡ true → (has nat_eq q xs ≡ true → (j : ℕ) × (slice_get xs j ≡ Some q)) → (j : ℕ) × (slice_get (x ∷ xs) j ≡ Some q)
    by true e g rest = (0, ap Some (sym (exact_unsigned_eq q x e)))
    by false e g rest = let r = rest g in (suc r.0, r.1)

-- what stands at a place is a member
pub has_at : (q : ℕ) (xs : List ℕ) (j : ℕ) → slice_get xs j ≡ Some q → has nat_eq q xs ≡ true
has_at q [] j h = cc
has_at q (x ∷ xs) zero h = let same : x ≡ q = cc in ap (λ (b : Bool). b || has nat_eq q xs) (subst (λ (y : ℕ). nat_eq q y ≡ true) (sym same) (nat_same q))
has_at q (x ∷ xs) (suc j) h = by (nat_eq q x) (has_at q xs j h)
  where
    by : (b : Bool) → has nat_eq q xs ≡ true → (b || has nat_eq q xs) ≡ true
    by true e = refl
    by false e = e

pub has_flat : {A : Type 0} (q : ℕ) (g : A → List ℕ) (xs : List A) (i : ℕ) (x : A) → slice_get xs i ≡ Some x → has nat_eq q (g x) ≡ true → has nat_eq q (flat_map g xs) ≡ true
has_flat q g [] i x h e = cc
has_flat q g (y ∷ ys) zero x h e =
    let same : y ≡ x = cc in
    let p : (j : ℕ) × (slice_get (g y) j ≡ Some q) = place_of q (g y) (ap (λ z. has nat_eq q (g z)) same ∙ e) in
    has_at q (g y ++ flat_map g ys) p.0 (front (g y) (flat_map g ys) p.0 p.1)
  where
    front : (xs zs : List ℕ) (i : ℕ) → slice_get xs i ≡ Some q → slice_get (xs ++ zs) i ≡ Some q
    front [] zs i h = cc
    front (x ∷ xs) zs zero h = h
    front (x ∷ xs) zs (suc i) h = front xs zs i h
has_flat q g (y ∷ ys) (suc i) x h e = back (g y) (flat_map g ys) (has_flat q g ys i x h e)
  where
    back : (xs zs : List ℕ) → has nat_eq q zs ≡ true → has nat_eq q (xs ++ zs) ≡ true
    back [] zs h = h
    back (x ∷ xs) zs h = by (nat_eq q x) (back xs zs h)
      where
        by : (b : Bool) → has nat_eq q (xs ++ zs) ≡ true → (b || has nat_eq q (xs ++ zs)) ≡ true
        by true e = refl
        by false e = e

-- a member of both lists is one of either
pub has_either : (q : ℕ) (xs ys : List ℕ) → has nat_eq q (xs ++ ys) ≡ true → (has nat_eq q xs ≡ true) ⊎ (has nat_eq q ys ≡ true)
has_either q [] ys h = inr h
has_either q (x ∷ xs) ys h = by (nat_eq q x) h (has_either q xs ys)
  where
    by : (b : Bool) → (b || has nat_eq q (xs ++ ys)) ≡ true → (has nat_eq q (xs ++ ys) ≡ true → (has nat_eq q xs ≡ true) ⊎ (has nat_eq q ys ≡ true)) → ((b || has nat_eq q xs) ≡ true) ⊎ (has nat_eq q ys ≡ true)
    by true g rest = inl refl
    by false g rest = rest g

pub has_front : (q : ℕ) (xs ys : List ℕ) → has nat_eq q xs ≡ true → has nat_eq q (xs ++ ys) ≡ true
has_front q [] ys h = cc
has_front q (x ∷ xs) ys h = by (nat_eq q x) h (has_front q xs ys)
  where
    by : (b : Bool) → (b || has nat_eq q xs) ≡ true → (has nat_eq q xs ≡ true → has nat_eq q (xs ++ ys) ≡ true) → (b || has nat_eq q (xs ++ ys)) ≡ true
    by true g rest = refl
    by false g rest = rest g

pub has_back : (q : ℕ) (xs ys : List ℕ) → has nat_eq q ys ≡ true → has nat_eq q (xs ++ ys) ≡ true
has_back q [] ys h = h
has_back q (x ∷ xs) ys h = by (nat_eq q x) (has_back q xs ys h)
  where
    by : (b : Bool) → has nat_eq q (xs ++ ys) ≡ true → (b || has nat_eq q (xs ++ ys)) ≡ true
    by true e = refl
    by false e = e

-- ---- no repeats
none_has : (x : ℕ) (xs : List ℕ) → has nat_eq x xs ≡ false → AllByRecursion (λ y. nat_eq x y ≡ false) xs
none_has x [] h = tt
none_has x (y ∷ ys) h = by (nat_eq x y) refl h (none_has x ys)
  where
    by : (b : Bool) → nat_eq x y ≡ b → (b || has nat_eq x ys) ≡ false → (has nat_eq x ys ≡ false → AllByRecursion (λ z. nat_eq x z ≡ false) ys) → (nat_eq x y ≡ false) × AllByRecursion (λ z. nat_eq x z ≡ false) ys
    by true e g rest = cc
    by false e g rest = (e, rest g)

has_none : (x : ℕ) (xs : List ℕ) → AllByRecursion (λ y. nat_eq x y ≡ false) xs → has nat_eq x xs ≡ true → ⊥
has_none x [] a h = differ h
  where
    differ : false ≡ true → ⊥
    differ d = cc
has_none x (y ∷ ys) a h = by (nat_eq x y) a.0 h (has_none x ys a.1)
  where
    by : (b : Bool) → b ≡ false → (b || has nat_eq x ys) ≡ true → (has nat_eq x ys ≡ true → ⊥) → ⊥
    by true e g rest = cc
    by false e g rest = rest g

once_none : {B : Type 0} (e : B → B → Bool) → IsDistinct e []
unfolding IsDistinct
once_none e = tt

pub once_front : (xs ys : List ℕ) → IsDistinct nat_eq (xs ++ ys) → IsDistinct nat_eq xs
once_front [] ys h = once_none nat_eq
once_front (x ∷ xs) ys h = IsDistinct-cons nat_eq x xs (all_front (λ (y : ℕ). nat_eq x y ≡ false) xs ys (IsDistinct-head nat_eq x (xs ++ ys) h)) (once_front xs ys (IsDistinct-tail nat_eq x (xs ++ ys) h))

pub once_back : (xs ys : List ℕ) → IsDistinct nat_eq (xs ++ ys) → IsDistinct nat_eq ys
once_back [] ys h = h
once_back (x ∷ xs) ys h = once_back xs ys (IsDistinct-tail nat_eq x (xs ++ ys) h)

-- no member of one is a member of the other
pub once_apart : (xs ys : List ℕ) (q : ℕ) → IsDistinct nat_eq (xs ++ ys) → has nat_eq q xs ≡ true → has nat_eq q ys ≡ true → ⊥
once_apart [] ys q h a b = differ a
  where
    differ : false ≡ true → ⊥
    differ d = cc
once_apart (x ∷ xs) ys q h a b = by (nat_eq q x) refl a (λ r. once_apart xs ys q (IsDistinct-tail nat_eq x (xs ++ ys) h) r b)
  where
    by : (c : Bool) → nat_eq q x ≡ c → (c || has nat_eq q xs) ≡ true → (has nat_eq q xs ≡ true → ⊥) → ⊥
    by true e g rest = has_none x ys (all_back (λ (y : ℕ). nat_eq x y ≡ false) xs ys (IsDistinct-head nat_eq x (xs ++ ys) h)) (subst (λ (z : ℕ). has nat_eq z ys ≡ true) (exact_unsigned_eq q x e) b)
    by false e g rest = rest g

pub once_both : (xs ys : List ℕ) → IsDistinct nat_eq xs → IsDistinct nat_eq ys → ((q : ℕ) → has nat_eq q xs ≡ true → has nat_eq q ys ≡ true → ⊥) → IsDistinct nat_eq (xs ++ ys)
once_both [] ys p q h = q
once_both (x ∷ xs) ys p q h =
    let here : has nat_eq x (x ∷ xs) ≡ true = has_at x (x ∷ xs) 0 refl in
    IsDistinct-cons nat_eq x (xs ++ ys)
    (all_append (λ (y : ℕ). nat_eq x y ≡ false) xs ys (IsDistinct-head nat_eq x xs p) (none_has x ys (none (has nat_eq x ys) refl (h x here))))
    (once_both xs ys (IsDistinct-tail nat_eq x xs p) q (λ r a b. h r (has_back r (x ∷ []) xs a) b))
  where
    none : (b : Bool) → has nat_eq x ys ≡ b → (has nat_eq x ys ≡ true → ⊥) → has nat_eq x ys ≡ false
    none true e g = absurd (g e)
    none false e g = e

-- a list whose members are taken to things that are told apart
pub once_map : {B : Type 0} (e : B → B → Bool) (g : ℕ → B) (P : ℕ → Type 0) (ks : List ℕ) → ((a b : ℕ) → P a → P b → nat_eq a b ≡ false → e (g a) (g b) ≡ false) → AllByRecursion P ks → IsDistinct nat_eq ks → IsDistinct e (map g ks)
once_map e g P [] f p h = once_none e
once_map e g P (k ∷ ks) f p h = IsDistinct-cons e (g k) (map g ks) (heads ks p.1 (IsDistinct-head nat_eq k ks h)) (once_map e g P ks f p.1 (IsDistinct-tail nat_eq k ks h))
  where
    heads : (js : List ℕ) → AllByRecursion P js → AllByRecursion (λ y. nat_eq k y ≡ false) js → AllByRecursion (λ y. e (g k) y ≡ false) (map g js)
    heads [] a b = tt
    heads (j ∷ js) a b = (f k j p.0 a.0 b.0, heads js a.1 b.1)

-- there are no more than n numbers below n
pub once_few : (n : ℕ) (xs : List ℕ) → AllByRecursion (λ q. q < n) xs → IsDistinct nat_eq xs → length xs ≤ n
once_few n xs a h = length-le_from_distinct_below xs n h (λ q m. let p = place_of q xs m in all_at (λ (y : ℕ). y < n) xs p.0 q a p.1)

pub drop_front : {A : Type 0} (xs ys : List A) → drop (length xs) (xs ++ ys) ≡ ys
drop_front [] ys = refl
drop_front (x ∷ xs) ys = drop_front xs ys
