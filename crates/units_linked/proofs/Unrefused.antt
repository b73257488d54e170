-- Linkable objects are refused for no symbol.
use Rattle.std.proofs.Common.{◌≡◌, ℕ, ◌+◌, List, [], ◌∷◌, ◌++◌, map, length, Bool, true, false, Option, Some, None, Result, Ok, Err, refl, sym, ap, ◌∙◌, subst, append_assoc, inl, inr}
use Rattle.std.specs.Prelude.{IsSome, nat_lt, if◌then◌else◌}
use Rattle.std.specs.List.{AllByRecursion, IsDistinct, Contains}
use Rattle.std.specs.Option.{option_or}
use Rattle.std.specs.Str.{bytes_eq}
use Rattle.std.proofs.lemmas.Bool.{cases_Bool}
use Rattle.std.proofs.lemmas.Grind.{flat_map-append}
use Rattle.std.proofs.lemmas.List.{append-nil, map-append}
use Rattle.lar_bytes.specs.Answers.{Fails}
use Rattle.lar_bytes.specs.declared.memory.OrMemory.{OrMemory}
use Rattle.lar_bytes.specs.declared.memory.OrMemory.TheVariants as errors
use Rattle.object_format.specs.Image.{Linked, image_spelling}
use Rattle.object_format.specs.Object.{Unlinked, UnlinkedFn}
use Rattle.symbol_link.specs.declared.fault.LinkFault.{LinkFault}
use Rattle.symbol_link.specs.Faults.{again, twice_in, twice_after, missing, undefined_in, undefined_from, undefined}
use Rattle.symbol_link.specs.declared.fault.LinkFault.TheVariants as fault
use Rattle.symbol_link.specs.Linked.{linked, unless, entered, entry_symbol, image_of, most, or_too_large}
use Rattle.symbol_link.specs.Symbols.{definition_of, place_of}
use Rattle.unit_input.specs.Inputs.{PlainInput}
use Rattle.unit_object.specs.Interface.{Interface, input_interface, object_interface}
use Rattle.unit_object.specs.UnitObject.{object_of}
use Rattle.unit_object.proofs.Shown.{object_of-shown}
use Rattle.units_linked.specs.Linkable.{homes_of, all_homes, AreLinkable}
use Rattle.units_linked.specs.UnitsImage.{whole_image, image_or_too_large, units_image}
use Rattle.units_linked.specs.declared.linking.TooLarge.{TooLarge}
use Rattle.units_linked.proofs.Homes.{IsNoneOf, apart, all_front, all_map, homes_in, homes_in-home, homes_in-other}
use Rattle.units_linked.proofs.Defined.{defined_from-none, defined_from-some}

-- ---- no symbol is defined twice

twice_in-none : (earlier : List ℕ → Option _) (second : ℕ) (fs : List UnlinkedFn) → AllByRecursion (λ s. earlier s ≡ None) (homes_in fs) → twice_in earlier second fs ≡ None
twice_in-none earlier second [] h = refl
twice_in-none earlier second (f ∷ fs) h =
    elim (cases_Bool f.external) [
      | inl home ↦
          let both = subst (AllByRecursion (λ s. earlier s ≡ None)) (homes_in-home f fs home) h in
          ap (λ b. option_or (again b f.symbol (earlier f.symbol) second) (twice_in earlier second fs)) home
          ∙ ap (λ d. option_or (again true f.symbol d second) (twice_in earlier second fs)) both.0
          ∙ twice_in-none earlier second fs both.1
      | inr other ↦
          ap (λ b. option_or (again b f.symbol (earlier f.symbol) second) (twice_in earlier second fs)) other
          ∙ twice_in-none earlier second fs (subst (AllByRecursion (λ s. earlier s ≡ None)) (homes_in-other f fs other) h)
    ]

abbrev pub homes : List Unlinked → List (List ℕ)
homes os = all_homes (map object_interface os)

pub homes-append : (xs ys : List Unlinked) → homes (xs ++ ys) ≡ homes xs ++ homes ys
homes-append xs ys = ap all_homes (map-append object_interface xs ys) ∙ flat_map-append homes_of (map object_interface xs) (map object_interface ys)

-- the homes of the objects so far with one more, and those behind it
pub homes-more : (earlier : List Unlinked) (o : Unlinked) (os : List Unlinked) → homes earlier ++ (homes_in o.functions ++ homes os) ≡ homes (earlier ++ o ∷ []) ++ homes os
homes-more earlier o os =
    let one = homes_in o.functions in
    sym (append_assoc (homes earlier) one (homes os))
    ∙ ap (λ l. (homes earlier ++ l) ++ homes os) (sym (append-nil one))
    ∙ ap (λ l. l ++ homes os) (sym (homes-append earlier (o ∷ [])))

twice_after-none : (earlier os : List Unlinked) → IsDistinct bytes_eq (homes earlier ++ homes os) → twice_after earlier os ≡ None
twice_after-none earlier [] h = refl
twice_after-none earlier (o ∷ os) h =
    let one = homes_in o.functions in
    let new = all_front (IsNoneOf (homes earlier)) one (homes os) (apart (homes earlier) (one ++ homes os) h) in
    let none = all_map (IsNoneOf (homes earlier)) (λ s. definition_of earlier s ≡ None) (λ s free. defined_from-none 0 0 earlier s free) one new in
    ap (λ f. option_or f (twice_after (earlier ++ o ∷ []) os)) (twice_in-none (definition_of earlier) (length earlier) o.functions none)
    ∙ twice_after-none (earlier ++ o ∷ []) os (subst (IsDistinct bytes_eq) (homes-more earlier o os) h)

-- ---- each external is defined

not_missing : (symbol : List ℕ) (d : _) (object : ℕ) → IsSome d → missing symbol d object ≡ None
not_missing symbol (Some d) object h = refl
not_missing symbol None object h = absurd cc

undefined_in-none : (definitions : List ℕ → Option _) (object : ℕ) (es : List (List ℕ)) → AllByRecursion (λ e. IsSome (definitions e)) es → undefined_in definitions object es ≡ None
undefined_in-none definitions object [] h = refl
undefined_in-none definitions object (e ∷ es) h =
    ap (λ f. option_or f (undefined_in definitions object es)) (not_missing e (definitions e) object h.0) ∙ undefined_in-none definitions object es h.1

undefined_from-none : (definitions : List ℕ → Option _) (known : List (List ℕ)) → ((q : List ℕ) → Contains known q → IsSome (definitions q)) → (object : ℕ) (os : List Unlinked)
    → AllByRecursion (λ (u : Interface). AllByRecursion (Contains known) u.externals) (map object_interface os) → undefined_from definitions object os ≡ None
undefined_from-none definitions known found object [] h = refl
undefined_from-none definitions known found object (o ∷ os) h =
    ap (λ f. option_or f (undefined_from definitions (object + 1) os)) (undefined_in-none definitions object o.externals (all_map (Contains known) (λ e. IsSome (definitions e)) found o.externals h.0))
    ∙ undefined_from-none definitions known found (object + 1) os h.1

-- ---- the answer

begun : (os : List Unlinked) (d : _) → IsSome d → entered os d ≡ or_too_large (image_of os (place_of d))
begun os (Some d) h = refl
begun os None h = absurd cc

pub linked-linkable : (os : List Unlinked) → AreLinkable (map object_interface os) → linked os ≡ image_or_too_large os
unfolding linked
linked-linkable os h =
    let entry = definition_of os entry_symbol in
    ap (λ f. unless f (unless (undefined os) (entered os entry))) (twice_after-none [] os h.once)
    ∙ ap (λ f. unless f (entered os entry)) (undefined_from-none (definition_of os) (homes os) (defined_from-some 0 0 os) 0 os h.known)
    ∙ begun os entry (defined_from-some 0 0 os entry_symbol h.entry)

pub linked-shown : (us : List PlainInput) (os : List Unlinked) → AreLinkable (map input_interface us) → map object_interface os ≡ map input_interface us → linked os ≡ image_or_too_large os
linked-shown us os h same = linked-linkable os (subst AreLinkable (sym same) h)

shown_each : (us : List PlainInput) (os : List Unlinked) → map object_of us ≡ map Ok os → map object_interface os ≡ map input_interface us
shown_each [] [] h = refl
shown_each [] (o ∷ os) h = absurd cc
shown_each (u ∷ us) [] h = absurd cc
shown_each (u ∷ us) (o ∷ os) h =
    let first : object_of u ≡ Ok o = cc in
    let rest : map object_of us ≡ map Ok os = cc in
    ap (λ i. i ∷ map object_interface os) (object_of-shown u o first) ∙ ap (λ l. input_interface u ∷ l) (shown_each us os rest)

pub linked-made : (us : List PlainInput) (os : List Unlinked) → AreLinkable (map input_interface us) → map object_of us ≡ map Ok os → linked os ≡ image_or_too_large os
linked-made us os h made = linked-shown us os h (shown_each us os made)

-- ---- the same with one refusal alone

abbrev unless_large : Bool → Linked → Result Linked TooLarge
unless_large b whole = if b then Err (record {}) else Ok whole

sized : (b : Bool) (whole image : Linked) → (if b then Err fault.TooLarge else Ok whole) ≡ Ok image → unless_large b whole ≡ Ok image
sized true whole image h = absurd cc
sized false whole image h = ap Ok cc

over : (b : Bool) (whole : Linked) (f : LinkFault) → (if b then Err fault.TooLarge else Ok whole) ≡ Err f → unless_large b whole ≡ Err (record {})
over true whole f h = refl
over false whole f h = absurd cc

pub units_image-made : (os : List Unlinked) (image : Linked) → AreLinkable (map object_interface os) → linked os ≡ Ok image → units_image os ≡ Ok image
units_image-made os image h is = sized (nat_lt most (length (image_spelling (whole_image os)))) (whole_image os) image (sym (linked-linkable os h) ∙ is)

pub units_image-refused : (os : List Unlinked) (e : OrMemory LinkFault) (f : LinkFault) → AreLinkable (map object_interface os) → e ≡ errors.Refused f → Fails e (linked os) → units_image os ≡ Err (record {})
units_image-refused os errors.Memory f h is fails = absurd cc
units_image-refused os (errors.Refused g) f h is fails = over (nat_lt most (length (image_spelling (whole_image os)))) (whole_image os) g (sym (linked-linkable os h) ∙ fails)
