-- Definitions of one object after the other, and that each is within the image.
use Rattle.std.proofs.Common.{◌≡◌, ℕ, suc, ◌+◌, ◌*◌, ◌<◌, ◌≤◌, ◌^◌, List, [], ◌∷◌, ◌++◌, length, take, drop, get_or, Option, Some, None, Ok, Err, refl, sym, ap, ◌∙◌, subst, arith}
use Rattle.std.proofs.lemmas.List.{take_more, drop_more, length-take, take_all, drop_all}
use Rattle.std.specs.List.{AllByRecursion}
use Rattle.std.specs.Option.{option_or}
use Rattle.lar_bytes.specs.declared.memory.OrMemory.{OrMemory}
use Rattle.lar_bytes.specs.declared.memory.OrMemory.TheVariants as errors
use Rattle.object_format.specs.Object.{UnlinkedFn, Unlinked, IsUnlinked}
use Rattle.symbol_link.specs.declared.definitions.Definition.{Definition}
use Rattle.symbol_link.specs.declared.fault.LinkFault.{LinkFault}
use Rattle.symbol_link.specs.Defining.{DefinesFunctions}
use Rattle.symbol_link.specs.Faults.{FaultIs, twice_in, twice_after, twice}
use Rattle.symbol_link.specs.Symbols.{defined_by, defined_from, definition_of, function_count}
use Rattle.symbol_link.proofs.Defined.{twice_in_same}
use Rattle.symbol_link.proofs.Options.{option_or-none, option_or-assoc}

pub function_count-append : (xs ys : List Unlinked) → function_count (xs ++ ys) ≡ function_count xs + function_count ys
function_count-append [] ys = omega arith
function_count-append (x ∷ xs) ys = let more = function_count-append xs ys in omega arith

pub defined_from-append : (object place : ℕ) (xs ys : List Unlinked) (q : List ℕ) → defined_from object place (xs ++ ys) q ≡ option_or (defined_from object place xs q) (defined_from (object + length xs) (place + function_count xs) ys q)
defined_from-append object place [] ys q =
    let one : object ≡ object + 0 = omega arith in
    let two : place ≡ place + 0 = omega arith in
    ap (λ (n : ℕ). defined_from n place ys q) one ∙ ap (λ (n : ℕ). defined_from (object + 0) n ys q) two
defined_from-append object place (x ∷ xs) ys q =
    let one : object + 1 + length xs ≡ object + suc (length xs) = omega arith in
    let two : place + length x.functions + function_count xs ≡ place + (length x.functions + function_count xs) = omega arith in
    let first = defined_by object place x.functions q in
    let others = defined_from (object + 1) (place + length x.functions) xs q in
    ap (λ (o : Option Definition). option_or first o) (defined_from-append (object + 1) (place + length x.functions) xs ys q)
    ∙ ap (λ (n : ℕ). option_or first (option_or others (defined_from n (place + length x.functions + function_count xs) ys q))) one
    ∙ ap (λ (n : ℕ). option_or first (option_or others (defined_from (object + suc (length xs)) n ys q))) two
    ∙ sym (option_or-assoc first others (defined_from (object + suc (length xs)) (place + (length x.functions + function_count xs)) ys q))

-- one object more
pub definition_of-more : (xs : List Unlinked) (o : Unlinked) (q : List ℕ) → definition_of (xs ++ o ∷ []) q ≡ option_or (definition_of xs q) (defined_by (length xs) (function_count xs) o.functions q)
definition_of-more xs o q =
    let one : 0 + length xs ≡ length xs = omega arith in
    let two : 0 + function_count xs ≡ function_count xs = omega arith in
    defined_from-append 0 0 xs (o ∷ []) q
    ∙ ap (λ (p : Option Definition). option_or (definition_of xs q) p) (option_or-none (defined_by (0 + length xs) (0 + function_count xs) o.functions q))
    ∙ ap (λ (n : ℕ). option_or (definition_of xs q) (defined_by n (0 + function_count xs) o.functions q)) one
    ∙ ap (λ (n : ℕ). option_or (definition_of xs q) (defined_by (length xs) n o.functions q)) two

-- what holds before the object of this number, in a loop over all objects
pub record DefinedObjects (objects : List Unlinked) (now : List ℕ → Option Definition) (number start : ℕ) : Type 0 where
  pub none : twice_after (take number objects) (drop number objects) ≡ twice objects
  pub found : (q : List ℕ) → now q ≡ definition_of (take number objects) q
  pub count : start ≡ function_count (take number objects)
  pub fits : start ≤ number * 2 ^ 32
  pub each : AllByRecursion IsUnlinked (take number objects)

pub all_push : {X : Type 0} (P : X → Type 0) (xs : List X) (y : X) → AllByRecursion P xs → P y → AllByRecursion P (xs ++ y ∷ [])
all_push P [] y h p = (p, tt)
all_push P (x ∷ xs) y h p = (h.0, all_push P xs y h.1 p)

-- what holds before the first object
pub nothing_yet : (objects : List Unlinked) (now : List ℕ → Option Definition) → ((q : List ℕ) → now q ≡ None) → DefinedObjects objects now 0 0
nothing_yet objects now h = record { none = refl; found = h; count = refl; fits = omega arith; each = tt }

-- the functions of one more object are defined
defines_object : (objects : List Unlinked) (old new : List ℕ → Option Definition) (number start : ℕ) (o : Unlinked) (x : Unit {0}) → number < length objects → IsUnlinked o
    → take (number + 1) objects ≡ take number objects ++ o ∷ [] → drop number objects ≡ o ∷ drop (number + 1) objects
    → DefinedObjects objects old number start → DefinesFunctions old new o.functions number start (Ok x) → DefinedObjects objects new (number + 1) (start + length o.functions)
defines_object objects old new number start o x lt own longer left so_far defines =
    let before = take number objects in
    let many : length before ≡ number = omega (arith, length-take number objects) in
    let one : twice_in (definition_of before) (length before) o.functions ≡ None =
    twice_in_same (definition_of before) old (λ q. sym (so_far.found q)) (length before) o.functions ∙ ap (λ (n : ℕ). twice_in old n o.functions) many ∙ defines.0 in
    record {
      none =
          ap (λ (ys : List Unlinked). twice_after ys (drop (number + 1) objects)) longer
          ∙ sym (ap (twice_after before) left ∙ ap (λ (f : Option LinkFault). option_or f (twice_after (before ++ o ∷ []) (drop (number + 1) objects))) one)
          ∙ so_far.none;
      found = λ q.
          defines.1 q
          ∙ ap (λ (p : Option Definition). option_or p (defined_by number start o.functions q)) (so_far.found q)
          ∙ ap (λ (n : ℕ). option_or (definition_of before q) (defined_by n start o.functions q)) (sym many)
          ∙ ap (λ (n : ℕ). option_or (definition_of before q) (defined_by (length before) n o.functions q)) so_far.count
          ∙ sym (ap (λ (ys : List Unlinked). definition_of ys q) longer ∙ definition_of-more before o q);
      count =
          let last : function_count (o ∷ []) ≡ length o.functions = omega arith in
          sym (ap function_count longer ∙ function_count-append before (o ∷ []) ∙ ap (λ (n : ℕ). function_count before + n) last ∙ ap (λ (n : ℕ). n + length o.functions) (sym so_far.count));
      fits = omega (arith, so_far.fits, own.functions);
      each = subst (λ (ys : List Unlinked). AllByRecursion IsUnlinked ys) (sym longer) (all_push IsUnlinked before o so_far.each own);
    }

pub defines_next : (objects : List Unlinked) (old new : List ℕ → Option Definition) (number start : ℕ) (o : Unlinked) (fs : List UnlinkedFn) (x : Unit {0}) → number < length objects
    → o ≡ get_or objects number o → fs ≡ o.functions → IsUnlinked o
    → DefinedObjects objects old number start → DefinesFunctions old new fs number start (Ok x) → DefinedObjects objects new (number + 1) (start + length fs)
defines_next objects old new number start o fs x lt is list own so_far defines =
    let longer : take (number + 1) objects ≡ take number objects ++ o ∷ [] = take_more objects number o lt ∙ ap (λ (p : Unlinked). take number objects ++ p ∷ []) (sym is) in
    let left : drop number objects ≡ o ∷ drop (number + 1) objects = drop_more objects number o lt ∙ ap (λ (p : Unlinked). p ∷ drop (number + 1) objects) (sym is) in
    let own_defines = subst (λ (gs : List UnlinkedFn). DefinesFunctions old new gs number start (Ok x)) list defines in
    subst (λ (gs : List UnlinkedFn). DefinedObjects objects new (number + 1) (start + length gs)) (sym list) (defines_object objects old new number start o x lt own longer left so_far own_defines)

-- or the first that is defined again is the refusal of all
pub defines_stop : (objects : List Unlinked) (old new : List ℕ → Option Definition) (number start : ℕ) (o : Unlinked) (fs : List UnlinkedFn) (e : OrMemory LinkFault) → number < length objects
    → o ≡ get_or objects number o → fs ≡ o.functions
    → DefinedObjects objects old number start → DefinesFunctions old new fs number start (Err e) → FaultIs e (twice objects)
defines_stop objects old new number start o fs errors.Memory lt is list so_far defines = tt
defines_stop objects old new number start o fs (errors.Refused fault) lt is list so_far defines =
    let before = take number objects in
    let left : drop number objects ≡ o ∷ drop (number + 1) objects = drop_more objects number o lt ∙ ap (λ (p : Unlinked). p ∷ drop (number + 1) objects) (sym is) in
    let many : length before ≡ number = omega (arith, length-take number objects) in
    let one : twice_in (definition_of before) (length before) o.functions ≡ Some fault =
    twice_in_same (definition_of before) old (λ q. sym (so_far.found q)) (length before) o.functions ∙ ap (λ (n : ℕ). twice_in old n o.functions) many ∙ ap (twice_in old number) (sym list) ∙ defines in
    sym so_far.none ∙ ap (twice_after before) left ∙ ap (λ (f : Option LinkFault). option_or f (twice_after (before ++ o ∷ []) (drop (number + 1) objects))) one

-- behind the last object all are defined
pub all_defined : (objects : List Unlinked) (now : List ℕ → Option Definition) (number start : ℕ) → length objects ≤ number → DefinedObjects objects now number start
    → (twice objects ≡ None) × ((q : List ℕ) → now q ≡ definition_of objects q) × AllByRecursion IsUnlinked objects
all_defined objects now number start le so_far =
    let all : take number objects ≡ objects = take_all number objects le in
    let end : drop number objects ≡ [] = drop_all number objects le in (
      sym so_far.none ∙ ap (λ (os : List Unlinked). twice_after os (drop number objects)) all ∙ ap (twice_after objects) end,
      λ q. so_far.found q ∙ ap (λ (os : List Unlinked). definition_of os q) all,
      subst (λ (os : List Unlinked). AllByRecursion IsUnlinked os) all so_far.each,
    )
