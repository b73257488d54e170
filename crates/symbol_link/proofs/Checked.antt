-- Externals that are looked up one after the other.
use Rattle.std.proofs.Common.{◌≡◌, ℕ, ◌+◌, ◌<◌, List, [], ◌∷◌, length, drop, get_or, Option, Some, None, refl, sym, ap, ◌∙◌}
use Rattle.std.proofs.lemmas.List.{drop_more}
use Rattle.std.specs.List.{AllByRecursion}
use Rattle.std.specs.Prelude.{IsSome}
use Rattle.object_format.specs.Object.{Unlinked}
use Rattle.symbol_link.specs.declared.definitions.Definition.{Definition}
use Rattle.symbol_link.specs.Faults.{missing, undefined_in, undefined_from}
use Rattle.symbol_link.proofs.Options.{none_first}

-- definitions that are the same for each symbol lack the same
undefined_in_same : (f g : List ℕ → Option Definition) → ((q : List ℕ) → f q ≡ g q) → (object : ℕ) (es : List (List ℕ)) → undefined_in f object es ≡ undefined_in g object es
undefined_in_same f g h object [] = refl
undefined_in_same f g h object (e ∷ es) = rw (h e, undefined_in_same f g h object es) refl

pub undefined_from_same : (f g : List ℕ → Option Definition) → ((q : List ℕ) → f q ≡ g q) → (object : ℕ) (os : List Unlinked) → undefined_from f object os ≡ undefined_from g object os
undefined_from_same f g h object [] = refl
undefined_from_same f g h object (o ∷ os) = rw (undefined_in_same f g h object o.externals, undefined_from_same f g h (object + 1) os) refl

is_there : (symbol : List ℕ) (d : Option Definition) (object : ℕ) → missing symbol d object ≡ None → IsSome d
is_there symbol (Some d) object h = refl
is_there symbol None object h = absurd cc

-- externals of which none is missing are defined
all_defined : (definitions : List ℕ → Option Definition) (object : ℕ) (es : List (List ℕ)) → undefined_in definitions object es ≡ None → AllByRecursion (λ symbol. IsSome (definitions symbol)) es
all_defined definitions object [] h = tt
all_defined definitions object (e ∷ es) h =
    let parts = none_first (missing e (definitions e) object) (undefined_in definitions object es) h in
    (is_there e (definitions e) object parts.0, all_defined definitions object es parts.1)

-- those of the next object are, and of the objects behind it none is missing
pub next_defined : (definitions : List ℕ → Option Definition) (os : List Unlinked) (k : ℕ) (o : Unlinked) → k < length os → o ≡ get_or os k o → undefined_from definitions k (drop k os) ≡ None
    → AllByRecursion (λ symbol. IsSome (definitions symbol)) o.externals × (undefined_from definitions (k + 1) (drop (k + 1) os) ≡ None)
next_defined definitions os k o lt is none =
    let first : drop k os ≡ o ∷ drop (k + 1) os = drop_more os k o lt ∙ ap (λ (p : Unlinked). p ∷ drop (k + 1) os) (sym is) in
    let parts = none_first (undefined_in definitions k o.externals) (undefined_from definitions (k + 1) (drop (k + 1) os)) (sym (ap (undefined_from definitions k) first) ∙ none) in
    (all_defined definitions k o.externals parts.0, parts.1)
