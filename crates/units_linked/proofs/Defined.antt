-- A symbol is defined exactly where it is at home.
use Rattle.std.proofs.Common.{◌≡◌, ℕ, ◌+◌, List, [], ◌∷◌, map, length, Bool, true, false, Option, Some, None, refl, sym, ap, ◌∙◌, subst, inl, inr}
use Rattle.std.specs.Prelude.{IsSome, ◌&&◌, if◌then◌else◌}
use Rattle.std.specs.List.{Contains}
use Rattle.std.specs.Option.{option_map, option_or}
use Rattle.std.specs.Str.{bytes_eq}
use Rattle.std.proofs.lemmas.Bool.{cases_Bool}
use Rattle.std.proofs.lemmas.List.Elements.{Contains-append_cases}
use Rattle.std.proofs.lemmas.Slice.Eq.{bytes_eq-Decides}
use Rattle.object_format.specs.Object.{Unlinked, UnlinkedFn}
use Rattle.symbol_link.specs.Symbols.{place_among, defined_by, defined_from}
use Rattle.unit_object.specs.Interface.{object_interface}
use Rattle.units_linked.specs.Linkable.{all_homes}
use Rattle.units_linked.proofs.Homes.{IsNoneOf, all_front, all_back, contains_none, contains_cons, homes_in, homes_in-home, homes_in-other}

-- ---- what is not at home is not defined

and_false : (a b : Bool) → b ≡ false → (a && b) ≡ false
and_false true b h = h
and_false false b h = refl

pub place_among-none : (place : ℕ) (fs : List UnlinkedFn) (q : List ℕ) → IsNoneOf (homes_in fs) q → place_among place fs q ≡ None
place_among-none place [] q h = refl
place_among-none place (f ∷ fs) q h =
    elim (cases_Bool f.external) [
      | inl home ↦
          let both = subst (λ ss. IsNoneOf ss q) (homes_in-home f fs home) h in
          ap (λ b. if b then Some place else place_among (place + 1) fs q) (and_false f.external (bytes_eq f.symbol q) both.0) ∙ place_among-none (place + 1) fs q both.1
      | inr other ↦
          ap (λ b. if b && bytes_eq f.symbol q then Some place else place_among (place + 1) fs q) other ∙ place_among-none (place + 1) fs q (subst (λ ss. IsNoneOf ss q) (homes_in-other f fs other) h)
    ]

pub defined_from-none : (object place : ℕ) (os : List Unlinked) (q : List ℕ) → IsNoneOf (all_homes (map object_interface os)) q → defined_from object place os q ≡ None
defined_from-none object place [] q h = refl
defined_from-none object place (o ∷ os) q h =
    let homes = homes_in o.functions in
    let others = all_homes (map object_interface os) in
    let here = place_among-none place o.functions q (all_front (λ s. bytes_eq s q ≡ false) homes others h) in
    ap (λ p. option_or (option_map (λ found. record { object = object; place = found }) p) (defined_from (object + 1) (place + length o.functions) os q)) here
    ∙ defined_from-none (object + 1) (place + length o.functions) os q (all_back (λ s. bytes_eq s q ≡ false) homes others h)

-- ---- what is at home is defined

first_or : (b : Bool) (place : ℕ) (later : Option ℕ) → IsSome later → IsSome (if b then Some place else later)
first_or true place later h = refl
first_or false place later h = h

pub place_among-some : (place : ℕ) (fs : List UnlinkedFn) (q : List ℕ) → Contains (homes_in fs) q → IsSome (place_among place fs q)
place_among-some place [] q h = absurd (contains_none q h)
place_among-some place (f ∷ fs) q h =
    elim (cases_Bool f.external) [
      | inl home ↦ elim (contains_cons f.symbol (homes_in fs) q (subst (λ ss. Contains ss q) (homes_in-home f fs home) h)) [
        | inl is ↦ let same : bytes_eq f.symbol q ≡ true = (bytes_eq-Decides f.symbol q).1 is in subst (λ b. IsSome (if b then Some place else place_among (place + 1) fs q)) (sym (ap (λ b. b && bytes_eq f.symbol q) home ∙ same)) refl
        | inr later ↦ first_or (f.external && bytes_eq f.symbol q) place (place_among (place + 1) fs q) (place_among-some (place + 1) fs q later)
      ]
      | inr other ↦ first_or (f.external && bytes_eq f.symbol q) place (place_among (place + 1) fs q) (place_among-some (place + 1) fs q (subst (λ ss. Contains ss q) (homes_in-other f fs other) h))
    ]

mapped : {A B : Type 0} (f : A → B) (a : Option A) → IsSome a → IsSome (option_map f a)
mapped f (Some x) h = refl
mapped f None h = absurd cc

left : {A : Type 0} (a b : Option A) → IsSome a → IsSome (option_or a b)
left (Some x) b h = refl
left None b h = absurd cc

right : {A : Type 0} (a b : Option A) → IsSome b → IsSome (option_or a b)
right (Some x) b h = refl
right None b h = h

pub defined_from-some : (object place : ℕ) (os : List Unlinked) (q : List ℕ) → Contains (all_homes (map object_interface os)) q → IsSome (defined_from object place os q)
defined_from-some object place [] q h = absurd (contains_none q h)
defined_from-some object place (o ∷ os) q h =
    let here = defined_by object place o.functions q in
    let others = defined_from (object + 1) (place + length o.functions) os q in
    elim (Contains-append_cases (homes_in o.functions) (all_homes (map object_interface os)) q h) [
      | inl first ↦ left here others (mapped (λ found. record { object = object; place = found }) (place_among place o.functions q) (place_among-some place o.functions q first))
      | inr later ↦ right here others (defined_from-some (object + 1) (place + length o.functions) os q later)
    ]
