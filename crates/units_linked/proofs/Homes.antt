-- Symbols that are at home in objects.
use Rattle.std.proofs.Common.{◌≡◌, ℕ, List, [], ◌∷◌, ◌++◌, map, true, false, refl, arith, inl, inr}
use Rattle.std.specs.Prelude.{filter, ◌⊎◌}
use Rattle.std.specs.List.{AllByRecursion, IsDistinct, Contains}
use Rattle.std.specs.Str.{bytes_eq}
use Rattle.std.proofs.lemmas.List.Elements.{Contains-append_cases, Contains-push_cases}
use Rattle.object_format.specs.Object.{UnlinkedFn}
use Rattle.unit_object.specs.Interface.{NamedFn}

-- ---- lists

pub all_front : {X : Type 0} (P : X → Type 0) (xs ys : List X) → AllByRecursion P (xs ++ ys) → AllByRecursion P xs
all_front P [] ys h = tt
all_front P (x ∷ xs) ys h = (h.0, all_front P xs ys h.1)

pub all_back : {X : Type 0} (P : X → Type 0) (xs ys : List X) → AllByRecursion P (xs ++ ys) → AllByRecursion P ys
all_back P [] ys h = h
all_back P (x ∷ xs) ys h = all_back P xs ys h.1

pub all_both : {X : Type 0} (P : X → Type 0) (xs ys : List X) → AllByRecursion P xs → AllByRecursion P ys → AllByRecursion P (xs ++ ys)
all_both P [] ys h k = k
all_both P (x ∷ xs) ys h k = (h.0, all_both P xs ys h.1 k)

pub all_map : {X : Type 0} (P Q : X → Type 0) → ((x : X) → P x → Q x) → (xs : List X) → AllByRecursion P xs → AllByRecursion Q xs
all_map P Q f [] h = tt
all_map P Q f (x ∷ xs) h = (f x h.0, all_map P Q f xs h.1)

all_of : {X : Type 0} (P : X → Type 0) → ((x : X) → P x) → (xs : List X) → AllByRecursion P xs
all_of P f [] = tt
all_of P f (x ∷ xs) = (f x, all_of P f xs)

all_and : {X : Type 0} (P Q : X → Type 0) (xs : List X) → AllByRecursion P xs → AllByRecursion Q xs → AllByRecursion (λ x. P x × Q x) xs
all_and P Q [] h k = tt
all_and P Q (x ∷ xs) h k = ((h.0, k.0), all_and P Q xs h.1 k.1)

pub contains_none : {X : Type 0} (q : X) → Contains [] q → ⊥
contains_none q h = let below = h.1 in omega (arith, below)

pub contains_cons : {X : Type 0} (x : X) (xs : List X) (q : X) → Contains (x ∷ xs) q → (x ≡ q) ⊎ Contains xs q
contains_cons x xs q h =
    elim (Contains-append_cases (x ∷ []) xs q h) [
      | inl first ↦ elim (Contains-push_cases [] x q first) [ inl none ↦ absurd (contains_none q none) | inr is ↦ inl is ]
      | inr later ↦ inr later
    ]

-- ---- symbols that are none of others

abbrev pub IsNoneOf : List (List ℕ) → List ℕ → Type 0
IsNoneOf xs q = AllByRecursion (λ s. bytes_eq s q ≡ false) xs

-- of distinct symbols the later ones are none of the earlier ones
pub apart : (xs ys : List (List ℕ)) → IsDistinct bytes_eq (xs ++ ys) → AllByRecursion (IsNoneOf xs) ys
unfolding IsDistinct
apart [] ys h = all_of (IsNoneOf []) (λ y. tt) ys
apart (x ∷ xs) ys h = all_and (λ y. bytes_eq x y ≡ false) (IsNoneOf xs) ys (all_back (λ y. bytes_eq x y ≡ false) xs ys h.0) (apart xs ys h.1)

-- ---- those at home in an object

abbrev pub homes_in : List UnlinkedFn → List (List ℕ)
homes_in fs = map (λ (f : NamedFn). f.symbol) (filter (λ f. f.external) (map (λ (f : UnlinkedFn). record { symbol = f.symbol; external = f.external }) fs))

pub homes_in-home : (f : UnlinkedFn) (fs : List UnlinkedFn) → f.external ≡ true → homes_in (f ∷ fs) ≡ f.symbol ∷ homes_in fs
homes_in-home f fs home = rw home refl

pub homes_in-other : (f : UnlinkedFn) (fs : List UnlinkedFn) → f.external ≡ false → homes_in (f ∷ fs) ≡ homes_in fs
homes_in-other f fs other = rw other refl
