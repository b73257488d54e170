-- Objects that come to an image, or to one that is too large, are linkable.
use Rattle.std.proofs.Common.{◌≡◌, ℕ, ◌+◌, List, [], ◌∷◌, ◌++◌, map, length, Bool, true, false, Option, Some, None, Result, Ok, Err, refl, sym, ap, ◌∙◌, subst, arith, inl, inr}
use Rattle.std.specs.Prelude.{IsSome, ◌&&◌, if◌then◌else◌}
use Rattle.std.specs.List.{AllByRecursion, IsDistinct, Contains}
use Rattle.std.specs.Option.{option_map, option_or}
use Rattle.std.specs.Str.{bytes_eq}
use Rattle.std.proofs.lemmas.Bool.{cases_Bool}
use Rattle.std.proofs.lemmas.List.{append-nil}
use Rattle.std.proofs.lemmas.List.Elements.{Contains-append_left, Contains-append_right}
use Rattle.std.proofs.lemmas.Slice.Eq.{bytes_eq-Decides}
use Rattle.object_format.specs.Image.{Linked}
use Rattle.object_format.specs.Object.{Unlinked, UnlinkedFn, IsUnlinked, symbols_of}
use Rattle.symbol_link.specs.declared.fault.LinkFault.{LinkFault}
use Rattle.symbol_link.specs.declared.fault.LinkFault.TheVariants as fault
use Rattle.symbol_link.specs.Faults.{again, twice_in, twice_after, twice, missing, undefined_in, undefined_from, undefined}
use Rattle.symbol_link.specs.Linked.{linked, unless, entered, entry_symbol}
use Rattle.symbol_link.specs.Symbols.{place_among, defined_by, defined_from, definition_of}
use Rattle.symbol_link.proofs.Defined.{fresh}
use Rattle.symbol_link.proofs.Options.{none_first}
use Rattle.unit_object.specs.Interface.{Interface, object_interface}
use Rattle.units_linked.specs.Linkable.{AreLinkable}
use Rattle.units_linked.proofs.Homes.{IsNoneOf, all_front, all_both, all_map, homes_in, homes_in-home, homes_in-other}
use Rattle.units_linked.proofs.Unrefused.{homes, homes-append, homes-more}

-- ---- what is not defined is not at home

none_from_place : (place : ℕ) (fs : List UnlinkedFn) (q : List ℕ) → place_among place fs q ≡ None → IsNoneOf (homes_in fs) q
none_from_place place [] q h = tt
none_from_place place (f ∷ fs) q h =
    let later = place_among (place + 1) fs q in
    elim (cases_Bool f.external) [
      | inl home ↦
          let here : (if bytes_eq f.symbol q then Some place else later) ≡ None = sym (ap (λ b. if b && bytes_eq f.symbol q then Some place else later) home) ∙ h in
          elim (cases_Bool (bytes_eq f.symbol q)) [
            | inl same ↦ let some : Some place ≡ None = sym (ap (λ b. if b then Some place else later) same) ∙ here in absurd cc
            | inr other ↦ subst (λ ss. IsNoneOf ss q) (sym (homes_in-home f fs home)) (other, none_from_place (place + 1) fs q (sym (ap (λ b. if b then Some place else later) other) ∙ here))
          ]
      | inr other ↦ subst (λ ss. IsNoneOf ss q) (sym (homes_in-other f fs other)) (none_from_place (place + 1) fs q (sym (ap (λ b. if b && bytes_eq f.symbol q then Some place else later) other) ∙ h))
    ]

map_none : {A B : Type 0} (f : A → B) (a : Option A) → option_map f a ≡ None → a ≡ None
map_none f None h = refl
map_none f (Some x) h = absurd cc

none_from_definition : (object place : ℕ) (os : List Unlinked) (q : List ℕ) → defined_from object place os q ≡ None → IsNoneOf (homes os) q
none_from_definition object place [] q h = tt
none_from_definition object place (o ∷ os) q h =
    let parts = none_first (defined_by object place o.functions q) (defined_from (object + 1) (place + length o.functions) os q) h in
    let here = map_none (λ found. record { object = object; place = found }) (place_among place o.functions q) parts.0 in
    all_both (λ s. bytes_eq s q ≡ false) (homes_in o.functions) (homes os) (none_from_place place o.functions q here) (none_from_definition (object + 1) (place + length o.functions) os q parts.1)

-- ---- what is defined is at home

pub contains_first : {X : Type 0} (x : X) (xs : List X) (q : X) → x ≡ q → Contains (x ∷ xs) q
contains_first x xs q is = (0, omega arith, is)

home_from_place : (place : ℕ) (fs : List UnlinkedFn) (q : List ℕ) → IsSome (place_among place fs q) → Contains (homes_in fs) q
home_from_place place [] q h = absurd cc
home_from_place place (f ∷ fs) q h =
    let later = place_among (place + 1) fs q in
    elim (cases_Bool f.external) [
      | inl home ↦
          let here : IsSome (if bytes_eq f.symbol q then Some place else later) = subst (λ b. IsSome (if b && bytes_eq f.symbol q then Some place else later)) home h in
          subst (λ ss. Contains ss q) (sym (homes_in-home f fs home)) (elim (cases_Bool (bytes_eq f.symbol q)) [
            | inl same ↦ contains_first f.symbol (homes_in fs) q ((bytes_eq-Decides f.symbol q).0 same)
            | inr other ↦ Contains-append_right (f.symbol ∷ []) (homes_in fs) q (home_from_place (place + 1) fs q (subst (λ b. IsSome (if b then Some place else later)) other here))
          ])
      | inr other ↦
          let here : IsSome later = subst (λ b. IsSome (if b && bytes_eq f.symbol q then Some place else later)) other h in
          subst (λ ss. Contains ss q) (sym (homes_in-other f fs other)) (home_from_place (place + 1) fs q here)
    ]

home_from_parts : (object place : ℕ) (o : Unlinked) (os : List Unlinked) (q : List ℕ) (p : Option ℕ) → place_among place o.functions q ≡ p → (IsSome (defined_from (object + 1) (place + length o.functions) os q) → Contains (homes os) q)
    → IsSome (option_or (option_map (λ found. record { object = object; place = found }) p) (defined_from (object + 1) (place + length o.functions) os q)) → Contains (homes_in o.functions ++ homes os) q
home_from_parts object place o os q (Some p) is later h = Contains-append_left (homes_in o.functions) (homes os) q (home_from_place place o.functions q (subst IsSome (sym is) refl))
home_from_parts object place o os q None is later h = Contains-append_right (homes_in o.functions) (homes os) q (later h)

home_from_definition : (object place : ℕ) (os : List Unlinked) (q : List ℕ) → IsSome (defined_from object place os q) → Contains (homes os) q
home_from_definition object place [] q h = absurd cc
home_from_definition object place (o ∷ os) q h =
    home_from_parts object place o os q (place_among place o.functions q) refl (λ later. home_from_definition (object + 1) (place + length o.functions) os q later) h

-- ---- distinct homes

distinct_join : (xs ys : List (List ℕ)) → IsDistinct bytes_eq xs → IsDistinct bytes_eq ys → AllByRecursion (IsNoneOf xs) ys → IsDistinct bytes_eq (xs ++ ys)
unfolding IsDistinct
distinct_join [] ys hx hy h = hy
distinct_join (x ∷ xs) ys hx hy h = (
  all_both (λ y. bytes_eq x y ≡ false) xs ys hx.0 (all_map (IsNoneOf (x ∷ xs)) (λ y. bytes_eq x y ≡ false) (λ y n. n.0) ys h),
  distinct_join xs ys hx.1 hy (all_map (IsNoneOf (x ∷ xs)) (IsNoneOf xs) (λ y n. n.1) ys h),
)

distinct_front : (xs ys : List (List ℕ)) → IsDistinct bytes_eq (xs ++ ys) → IsDistinct bytes_eq xs
unfolding IsDistinct
distinct_front [] ys h = tt
distinct_front (x ∷ xs) ys h = (all_front (λ y. bytes_eq x y ≡ false) xs ys h.0, distinct_front xs ys h.1)

all_homes_in : (P : List ℕ → Type 0) (fs : List UnlinkedFn) → AllByRecursion P (symbols_of fs) → AllByRecursion P (homes_in fs)
all_homes_in P [] h = tt
all_homes_in P (f ∷ fs) h =
    elim (cases_Bool f.external) [
      | inl home ↦ subst (AllByRecursion P) (sym (homes_in-home f fs home)) (h.0, all_homes_in P fs h.1)
      | inr other ↦ subst (AllByRecursion P) (sym (homes_in-other f fs other)) (all_homes_in P fs h.1)
    ]

distinct_homes : (fs : List UnlinkedFn) → IsDistinct bytes_eq (symbols_of fs) → IsDistinct bytes_eq (homes_in fs)
unfolding IsDistinct
distinct_homes [] h = tt
distinct_homes (f ∷ fs) h =
    elim (cases_Bool f.external) [
      | inl home ↦ subst (IsDistinct bytes_eq) (sym (homes_in-home f fs home)) (all_homes_in (λ y. bytes_eq f.symbol y ≡ false) fs h.0, distinct_homes fs h.1)
      | inr other ↦ subst (IsDistinct bytes_eq) (sym (homes_in-other f fs other)) (distinct_homes fs h.1)
    ]

none_twice_in : (earlier : List ℕ → Option _) (second : ℕ) (fs : List UnlinkedFn) → twice_in earlier second fs ≡ None → AllByRecursion (λ s. earlier s ≡ None) (homes_in fs)
none_twice_in earlier second [] h = tt
none_twice_in earlier second (f ∷ fs) h =
    let parts = none_first (again f.external f.symbol (earlier f.symbol) second) (twice_in earlier second fs) h in
    let rest = none_twice_in earlier second fs parts.1 in
    elim (cases_Bool f.external) [
      | inl home ↦ subst (AllByRecursion (λ s. earlier s ≡ None)) (sym (homes_in-home f fs home)) (fresh f.external f.symbol (earlier f.symbol) second parts.0 home, rest)
      | inr other ↦ subst (AllByRecursion (λ s. earlier s ≡ None)) (sym (homes_in-other f fs other)) rest
    ]

distinct_once : (earlier os : List Unlinked) → AllByRecursion IsUnlinked os → IsDistinct bytes_eq (homes earlier) → twice_after earlier os ≡ None → IsDistinct bytes_eq (homes earlier ++ homes os)
distinct_once earlier [] each h once = subst (IsDistinct bytes_eq) (sym (append-nil (homes earlier))) h
distinct_once earlier (o ∷ os) each h once =
    let one = homes_in o.functions in
    let parts = none_first (twice_in (definition_of earlier) (length earlier) o.functions) (twice_after (earlier ++ o ∷ []) os) once in
    let new = none_twice_in (definition_of earlier) (length earlier) o.functions parts.0 in
    let free = all_map (λ s. definition_of earlier s ≡ None) (IsNoneOf (homes earlier)) (λ s none. none_from_definition 0 0 earlier s none) one new in
    let own = distinct_homes o.functions (distinct_front (symbols_of o.functions) o.externals each.0.distinct) in
    let joined = distinct_join (homes earlier) one h own free in
    let same : homes earlier ++ one ≡ homes (earlier ++ o ∷ []) = ap (λ l. homes earlier ++ l) (sym (append-nil one)) ∙ sym (homes-append earlier (o ∷ [])) in
    subst (IsDistinct bytes_eq) (sym (homes-more earlier o os)) (distinct_once (earlier ++ o ∷ []) os each.1 (subst (IsDistinct bytes_eq) same joined) parts.1)

-- ---- externals

there : (symbol : List ℕ) (d : _) (object : ℕ) → missing symbol d object ≡ None → IsSome d
there symbol (Some d) object h = refl
there symbol None object h = absurd cc

known_in : (definitions : List ℕ → Option _) (known : List (List ℕ)) → ((q : List ℕ) → IsSome (definitions q) → Contains known q) → (object : ℕ) (es : List (List ℕ)) → undefined_in definitions object es ≡ None → AllByRecursion (Contains known) es
known_in definitions known found object [] h = tt
known_in definitions known found object (e ∷ es) h =
    let parts = none_first (missing e (definitions e) object) (undefined_in definitions object es) h in
    (found e (there e (definitions e) object parts.0), known_in definitions known found object es parts.1)

known_from : (definitions : List ℕ → Option _) (known : List (List ℕ)) → ((q : List ℕ) → IsSome (definitions q) → Contains known q) → (object : ℕ) (os : List Unlinked) → undefined_from definitions object os ≡ None
    → AllByRecursion (λ (u : Interface). AllByRecursion (Contains known) u.externals) (map object_interface os)
known_from definitions known found object [] h = tt
known_from definitions known found object (o ∷ os) h =
    let parts = none_first (undefined_in definitions object o.externals) (undefined_from definitions (object + 1) os) h in
    (known_in definitions known found object o.externals parts.0, known_from definitions known found (object + 1) os parts.1)

-- ---- the image, or that it is too large

-- neither of the first two refusals is that of size

either_other : (a b : Option LinkFault) → (a ≡ Some fault.TooLarge → ⊥) → (b ≡ Some fault.TooLarge → ⊥) → option_or a b ≡ Some fault.TooLarge → ⊥
either_other None b ha hb h = hb h
either_other (Some x) b ha hb h = ha h

again_other : (external : Bool) (symbol : List ℕ) (d : _) (second : ℕ) → again external symbol d second ≡ Some fault.TooLarge → ⊥
again_other true symbol (Some d) second h = absurd cc
again_other true symbol None second h = absurd cc
again_other false symbol d second h = absurd cc

twice_in_other : (earlier : List ℕ → Option _) (second : ℕ) (fs : List UnlinkedFn) → twice_in earlier second fs ≡ Some fault.TooLarge → ⊥
twice_in_other earlier second [] h = absurd cc
twice_in_other earlier second (f ∷ fs) h =
    either_other (again f.external f.symbol (earlier f.symbol) second) (twice_in earlier second fs) (again_other f.external f.symbol (earlier f.symbol) second) (twice_in_other earlier second fs) h

twice_after_other : (earlier os : List Unlinked) → twice_after earlier os ≡ Some fault.TooLarge → ⊥
twice_after_other earlier [] h = absurd cc
twice_after_other earlier (o ∷ os) h =
    either_other (twice_in (definition_of earlier) (length earlier) o.functions) (twice_after (earlier ++ o ∷ []) os) (twice_in_other (definition_of earlier) (length earlier) o.functions) (twice_after_other (earlier ++ o ∷ []) os) h

missing_other : (symbol : List ℕ) (d : _) (object : ℕ) → missing symbol d object ≡ Some fault.TooLarge → ⊥
missing_other symbol (Some d) object h = absurd cc
missing_other symbol None object h = absurd cc

undefined_in_other : (definitions : List ℕ → Option _) (object : ℕ) (es : List (List ℕ)) → undefined_in definitions object es ≡ Some fault.TooLarge → ⊥
undefined_in_other definitions object [] h = absurd cc
undefined_in_other definitions object (e ∷ es) h = either_other (missing e (definitions e) object) (undefined_in definitions object es) (missing_other e (definitions e) object) (undefined_in_other definitions object es) h

undefined_from_other : (definitions : List ℕ → Option _) (object : ℕ) (os : List Unlinked) → undefined_from definitions object os ≡ Some fault.TooLarge → ⊥
undefined_from_other definitions object [] h = absurd cc
undefined_from_other definitions object (o ∷ os) h =
    either_other (undefined_in definitions object o.externals) (undefined_from definitions (object + 1) os) (undefined_in_other definitions object o.externals) (undefined_from_other definitions (object + 1) os) h

-- an answer that no symbol is in the way of
abbrev pub IsOfSize : Result Linked LinkFault → Type 0
IsOfSize (Ok image) = Unit {0}
IsOfSize (Err f) = f ≡ fault.TooLarge

not_refused : (f : Option LinkFault) (r : Result Linked LinkFault) → (f ≡ Some fault.TooLarge → ⊥) → IsOfSize (unless f r) → (f ≡ None) × IsOfSize r
not_refused None r other h = (refl, h)
not_refused (Some f) r other h = absurd (other (ap Some h))

begins : (os : List Unlinked) (d : _) → IsOfSize (entered os d) → IsSome d
begins os (Some d) h = refl
begins os None h = absurd cc

needed : (os : List Unlinked) → AllByRecursion IsUnlinked os → IsOfSize (linked os) → AreLinkable (map object_interface os)
unfolding linked IsDistinct
needed os each h =
    let entry = definition_of os entry_symbol in
    let a = not_refused (twice os) (unless (undefined os) (entered os entry)) (twice_after_other [] os) h in
    let b = not_refused (undefined os) (entered os entry) (undefined_from_other (definition_of os) 0 os) a.1 in
    record {
      once = distinct_once [] os each tt a.0;
      known = known_from (definition_of os) (homes os) (λ q found. home_from_definition 0 0 os q found) 0 os b.0;
      entry = home_from_definition 0 0 os entry_symbol (begins os entry b.1);
    }

pub linkable-image : (os : List Unlinked) (image : Linked) → AllByRecursion IsUnlinked os → linked os ≡ Ok image → AreLinkable (map object_interface os)
linkable-image os image each h = needed os each (subst IsOfSize (sym h) tt)

pub linkable-too_large : (os : List Unlinked) → AllByRecursion IsUnlinked os → linked os ≡ Err fault.TooLarge → AreLinkable (map object_interface os)
linkable-too_large os each h = needed os each (subst IsOfSize (sym h) refl)
