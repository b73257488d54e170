-- What linking answers, once the parts are known.
use Rattle.std.proofs.Common.{◌≡◌, ℕ, ◌<◌, ◌≤◌, ◌^◌, List, length, Bool, cond, Option, Some, None, Ok, Err, refl, sym, ap, ◌∙◌, subst, arith}
use Rattle.std.proofs.lemmas.Bool.{le-ltb, lt-ltb}
use Rattle.std.specs.List.{AllByRecursion}
use Rattle.lar_bytes.specs.Answers.{Fails}
use Rattle.lar_bytes.specs.declared.memory.OrMemory.{OrMemory}
use Rattle.lar_bytes.specs.declared.memory.OrMemory.TheVariants as errors
use Rattle.object_format.specs.Code.{IsLinkedCode}
use Rattle.object_format.specs.Image.{LinkedFn, image_spelling}
use Rattle.object_format.specs.Object.{Unlinked, IsUnlinked}
use Rattle.symbol_link.specs.declared.definitions.Definition.{Definition}
use Rattle.symbol_link.specs.declared.fault.LinkFault.{LinkFault}
use Rattle.symbol_link.specs.declared.fault.LinkFault.TheVariants.{NoEntry, TooLarge}
use Rattle.symbol_link.specs.Faults.{FaultIs, twice, undefined_from}
use Rattle.symbol_link.specs.Linked.{linked, unless, entered, entry_symbol, image_of, functions_from, most}
use Rattle.symbol_link.specs.Sizes.{image_size}
use Rattle.symbol_link.specs.Symbols.{definition_of, place_of, function_count}
use Rattle.symbol_link.proofs.Checked.{undefined_from_same}
use Rattle.symbol_link.proofs.Joined.{functions_from_same, length-functions_from, defined_from-below, place_of-below, calls_below}
use Rattle.symbol_link.proofs.Lengths.{length-image, count-sizes}

-- ---- the first two refusals

pub refused_twice : (objects : List Unlinked) (e : OrMemory LinkFault) → FaultIs e (twice objects) → Fails e (linked objects)
unfolding linked
refused_twice objects errors.Memory h = tt
refused_twice objects (errors.Refused fault) h = rw h refl

-- no symbol is defined twice, and these are the definitions
pub record AreDefined (objects : List Unlinked) (definitions : List ℕ → Option Definition) : Type 0 where
  pub once : twice objects ≡ None
  pub found : (q : List ℕ) → definitions q ≡ definition_of objects q
  pub each : AllByRecursion IsUnlinked objects

-- the rest of what linking does then
left : (objects : List Unlinked) (definitions : List ℕ → Option Definition) → AreDefined objects definitions → linked objects ≡ unless (undefined_from definitions 0 objects) (entered objects (definitions entry_symbol))
unfolding linked
left objects definitions h =
    let same = sym (undefined_from_same definitions (definition_of objects) h.found 0 objects) in
    rw h.once (ap (λ (f : Option LinkFault). unless f (entered objects (definition_of objects entry_symbol))) same ∙ ap (λ (d : Option Definition). unless (undefined_from definitions 0 objects) (entered objects d)) (sym (h.found entry_symbol)))

pub refused_undefined : (objects : List Unlinked) (definitions : List ℕ → Option Definition) (e : OrMemory LinkFault) → AreDefined objects definitions → FaultIs e (undefined_from definitions 0 objects) → Fails e (linked objects)
refused_undefined objects definitions errors.Memory h fault = tt
refused_undefined objects definitions (errors.Refused fault) h is = left objects definitions h ∙ ap (λ (f : Option LinkFault). unless f (entered objects (definitions entry_symbol))) is

-- ---- the entry and the size

no_fault : (objects : List Unlinked) (definitions : List ℕ → Option Definition) (entry : Option Definition) → AreDefined objects definitions → undefined_from definitions 0 objects ≡ None → definitions entry_symbol ≡ entry → linked objects ≡ entered objects entry
no_fault objects definitions entry h all is =
    left objects definitions h ∙ ap (λ (f : Option LinkFault). unless f (entered objects (definitions entry_symbol))) all ∙ ap (entered objects) is

pub no_entry : (objects : List Unlinked) (definitions : List ℕ → Option Definition) → AreDefined objects definitions → undefined_from definitions 0 objects ≡ None → definitions entry_symbol ≡ None → linked objects ≡ Err NoEntry
no_entry objects definitions h all is = no_fault objects definitions None h all is

pub too_large : (objects : List Unlinked) (definitions : List ℕ → Option Definition) (entry : Definition) → AreDefined objects definitions → undefined_from definitions 0 objects ≡ None → definitions entry_symbol ≡ Some entry → (image_size objects ≤ most → ⊥) → linked objects ≡ Err TooLarge
too_large objects definitions entry h all is over =
    let long : most < length (image_spelling (image_of objects entry.place)) = subst (λ (n : ℕ). most < n) (sym (length-image objects entry.place h.each)) (omega (arith, over)) in
    no_fault objects definitions (Some entry) h all is ∙ ap (λ (b : Bool). cond b (Err TooLarge) (Ok (image_of objects entry.place))) (lt-ltb most (length (image_spelling (image_of objects entry.place))) long)

pub is_linked : (objects : List Unlinked) (definitions : List ℕ → Option Definition) (entry : Definition) (functions : List LinkedFn) → AreDefined objects definitions → undefined_from definitions 0 objects ≡ None → definitions entry_symbol ≡ Some entry → image_size objects ≤ most
    → functions ≡ functions_from definitions 0 objects → linked objects ≡ Ok (record { entry = entry.place; functions = functions })
is_linked objects definitions entry functions h all is fits are =
    let short : length (image_spelling (image_of objects entry.place)) ≤ most = subst (λ (n : ℕ). n ≤ most) (sym (length-image objects entry.place h.each)) fits in
    let same : functions_from (definition_of objects) 0 objects ≡ functions = sym (are ∙ functions_from_same definitions (definition_of objects) h.found 0 objects) in
    no_fault objects definitions (Some entry) h all is
    ∙ ap (λ (b : Bool). cond b (Err TooLarge) (Ok (image_of objects entry.place))) (le-ltb most (length (image_spelling (image_of objects entry.place))) short)
    ∙ ap (λ (fs : List LinkedFn). Ok (record { entry = entry.place; functions = fs })) same

-- ---- what the image keeps

-- an image that is not too long has few functions
pub few : (objects : List Unlinked) → image_size objects ≤ most → function_count objects < 2 ^ 32
few objects fits = let count = count-sizes objects in omega arith

pub entry-below : (objects : List Unlinked) (definitions : List ℕ → Option Definition) (entry : Definition) → AreDefined objects definitions → definitions entry_symbol ≡ Some entry → entry.place < function_count objects
entry-below objects definitions entry h is = let below = defined_from-below 0 0 objects entry_symbol entry (sym (h.found entry_symbol) ∙ is) in omega arith

pub places-below : (objects : List Unlinked) (definitions : List ℕ → Option Definition) (entry : Definition) → AreDefined objects definitions → definitions entry_symbol ≡ Some entry → (q : List ℕ) → place_of (definitions q) < function_count objects
places-below objects definitions entry h is q =
    let below = entry-below objects definitions entry h is in
    place_of-below objects q (definitions q) (omega arith) (sym (h.found q))

pub calls_linked : (objects : List Unlinked) (definitions : List ℕ → Option Definition) (entry : Definition) (functions : List LinkedFn) → AreDefined objects definitions → definitions entry_symbol ≡ Some entry → image_size objects ≤ most
    → functions ≡ functions_from definitions 0 objects → AllByRecursion (λ f. IsLinkedCode (length functions) f.code) functions
calls_linked objects definitions entry functions h is fits are =
    let count : length functions ≡ function_count objects = ap length are ∙ length-functions_from definitions 0 objects in
    let below = entry-below objects definitions entry h is in
    let small = few objects fits in
    let calls = calls_below definitions (function_count objects) 0 objects (omega arith) (omega arith) (places-below objects definitions entry h is) (omega arith) h.each in
    subst (λ (n : ℕ). AllByRecursion (λ (f : LinkedFn). IsLinkedCode n f.code) functions) (sym count) (subst (λ (fs : List LinkedFn). AllByRecursion (λ (f : LinkedFn). IsLinkedCode (function_count objects) f.code) fs) (sym are) calls)
