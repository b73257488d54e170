-- The functions of the image, object after object.
use Rattle.std.proofs.Common.{◌≡◌, ℕ, zero, suc, ◌+◌, ◌-◌, ◌<◌, ◌≤◌, ◌^◌, List, [], ◌∷◌, ◌++◌, length, take, drop, get_or, ltb, Option, Some, None, refl, sym, ap, ◌∙◌, subst, append_assoc, arith, inl, inr, ◌⊎◌}
use Rattle.std.proofs.lemmas.Bool.{ltb-true, cases_Bool}
use Rattle.std.proofs.lemmas.List.{append-nil, length-append, length-map, take_more}
use Rattle.std.specs.List.{AllByRecursion}
use Rattle.std.specs.Option.{option_map, option_or}
use Rattle.std.specs.Prelude.{map, slice_index, ◌&&◌}
use Rattle.std.specs.Str.{bytes_eq}
use Rattle.object_format.specs.Code.{IsLinkedCode}
use Rattle.object_format.specs.Image.{LinkedFn}
use Rattle.object_format.specs.Object.{Unlinked, UnlinkedFn, IsUnlinked, callee_count}
use Rattle.symbol_link.specs.declared.definitions.Definition.{Definition}
use Rattle.symbol_link.specs.Linked.{placed, placed_all, places_of, callee, functions_from}
use Rattle.symbol_link.specs.Symbols.{place_among, defined_from, definition_of, place_of, function_count}
use Rattle.symbol_link.proofs.Apart.{around}
use Rattle.symbol_link.proofs.Moved.{linked-relocated}
use Rattle.symbol_link.proofs.Places.{function_count-append}

-- ---- as many as the objects have

pub length-functions_from : (definitions : List ℕ → Option Definition) (start : ℕ) (os : List Unlinked) → length (functions_from definitions start os) ≡ function_count os
length-functions_from definitions start [] = refl
length-functions_from definitions start (o ∷ os) =
    let place = callee start (length o.functions) (places_of definitions o.externals) in
    length-append (placed_all definitions start o) (functions_from definitions (start + length o.functions) os)
    ∙ ap (λ (n : ℕ). n + length (functions_from definitions (start + length o.functions) os)) (length-map o.functions (placed place))
    ∙ ap (λ (n : ℕ). length o.functions + n) (length-functions_from definitions (start + length o.functions) os)

functions_from-append : (definitions : List ℕ → Option Definition) (start : ℕ) (xs : List Unlinked) (o : Unlinked)
    → functions_from definitions start (xs ++ o ∷ []) ≡ functions_from definitions start xs ++ placed_all definitions (start + function_count xs) o
functions_from-append definitions start [] o =
    let same : start ≡ start + 0 = omega arith in append-nil (placed_all definitions start o) ∙ ap (λ (n : ℕ). placed_all definitions n o) same
functions_from-append definitions start (x ∷ xs) o =
    let same : start + length x.functions + function_count xs ≡ start + (length x.functions + function_count xs) = omega arith in
    ap (λ (fs : List LinkedFn). placed_all definitions start x ++ fs) (functions_from-append definitions (start + length x.functions) xs o)
    ∙ sym (append_assoc (placed_all definitions start x) (functions_from definitions (start + length x.functions) xs) (placed_all definitions (start + length x.functions + function_count xs) o))
    ∙ ap (λ (n : ℕ). functions_from definitions start (x ∷ xs) ++ placed_all definitions n o) same

-- one object more
pub functions_from-more : (definitions : List ℕ → Option Definition) (os : List Unlinked) (k : ℕ) (o : Unlinked) (start : ℕ) (old new : List LinkedFn) → k < length os → o ≡ get_or os k o → start ≡ length old
    → old ≡ functions_from definitions 0 (take k os) → new ≡ old ++ placed_all definitions start o → new ≡ functions_from definitions 0 (take (k + 1) os)
functions_from-more definitions os k o start old new lt is count was put =
    let same : 0 + function_count (take k os) ≡ start = omega (arith, count, ap length was, length-functions_from definitions 0 (take k os)) in
    let longer : take (k + 1) os ≡ take k os ++ o ∷ [] = take_more os k o lt ∙ ap (λ (p : Unlinked). take k os ++ p ∷ []) (sym is) in
    put
    ∙ ap (λ (fs : List LinkedFn). fs ++ placed_all definitions start o) was
    ∙ sym (ap (functions_from definitions 0) longer ∙ functions_from-append definitions 0 (take k os) o ∙ ap (λ (n : ℕ). functions_from definitions 0 (take k os) ++ placed_all definitions n o) same)

-- the next object's functions are among all
pub room_for : (definitions : List ℕ → Option Definition) (os : List Unlinked) (k : ℕ) (o : Unlinked) (start : ℕ) (old : List LinkedFn) → k < length os → o ≡ get_or os k o → start ≡ length old
    → old ≡ functions_from definitions 0 (take k os) → start + length o.functions ≤ function_count os
room_for definitions os k o start old lt is count was =
    let parts : os ≡ take k os ++ (o ∷ drop (k + 1) os) = around os k o lt ∙ ap (λ (p : Unlinked). take k os ++ (p ∷ drop (k + 1) os)) (sym is) in
    let all : function_count os ≡ function_count (take k os) + function_count (o ∷ drop (k + 1) os) = ap function_count parts ∙ function_count-append (take k os) (o ∷ drop (k + 1) os) in
    omega (arith, all, count, ap length was, length-functions_from definitions 0 (take k os))

-- ---- definitions that are the same for each symbol make the same functions

places_of_same : (f g : List ℕ → Option Definition) → ((q : List ℕ) → f q ≡ g q) → (es : List (List ℕ)) → places_of f es ≡ places_of g es
places_of_same f g h [] = refl
places_of_same f g h (e ∷ es) = rw (h e, places_of_same f g h es) refl

pub functions_from_same : (f g : List ℕ → Option Definition) → ((q : List ℕ) → f q ≡ g q) → (start : ℕ) (os : List Unlinked) → functions_from f start os ≡ functions_from g start os
functions_from_same f g h start [] = refl
functions_from_same f g h start (o ∷ os) = rw (places_of_same f g h o.externals, functions_from_same f g h (start + length o.functions) os) refl

-- ---- each definition is one of the functions

place_among-below : (place : ℕ) (fs : List UnlinkedFn) (q : List ℕ) (p : ℕ) → place_among place fs q ≡ Some p → p < place + length fs
place_among-below place [] q p h = absurd cc
place_among-below place (f ∷ fs) q p h =
    elim (cases_Bool (f.external && bytes_eq f.symbol q)) [
      | inl hit ↦ let found = rw hit at h in let same : place ≡ p = cc in omega arith
      | inr miss ↦ let found = rw miss at h in let below = place_among-below (place + 1) fs q p found in omega arith
    ]

some_is : {A : Type 0} (x y : A) → Some x ≡ Some y → x ≡ y
some_is x y h = cc

chosen : (object place : ℕ) (fs : List UnlinkedFn) (q : List ℕ) (found : Option ℕ) (later : Option Definition) (d : Definition) → place_among place fs q ≡ found
    → option_or (option_map (λ p. record { object = object; place = p }) found) later ≡ Some d → (d.place < place + length fs) ⊎ (later ≡ Some d)
chosen object place fs q None later d is h = inr h
chosen object place fs q (Some p) later d is h = inl (let same : p ≡ d.place = ap (λ (x : Definition). x.place) (some_is (record { object = object; place = p }) d h) in let below = place_among-below place fs q p is in omega arith)

pub defined_from-below : (object place : ℕ) (os : List Unlinked) (q : List ℕ) (d : Definition) → defined_from object place os q ≡ Some d → d.place < place + function_count os
defined_from-below object place [] q d h = absurd cc
defined_from-below object place (o ∷ os) q d h =
    elim (chosen object place o.functions q (place_among place o.functions q) (defined_from (object + 1) (place + length o.functions) os q) d refl h) [
      | inl first ↦ omega arith
      | inr later ↦ let below = defined_from-below (object + 1) (place + length o.functions) os q d later in omega arith
    ]

-- no place is past the functions
pub place_of-below : (objects : List Unlinked) (q : List ℕ) (found : Option Definition) → 0 < function_count objects → definition_of objects q ≡ found → place_of found < function_count objects
place_of-below objects q None some h = some
place_of-below objects q (Some d) some h = let below = defined_from-below 0 0 objects q d h in omega arith

-- ---- each call leads to one of the functions

pub slice_index-places_of : (definitions : List ℕ → Option Definition) (count : ℕ) → 0 < count → ((q : List ℕ) → place_of (definitions q) < count) → (es : List (List ℕ)) (k : ℕ) → slice_index (places_of definitions es) k < count
slice_index-places_of definitions count some below [] k = some
slice_index-places_of definitions count some below (e ∷ es) zero = below e
slice_index-places_of definitions count some below (e ∷ es) (suc k) = slice_index-places_of definitions count some below es k

callee-below : (definitions : List ℕ → Option Definition) (count start own : ℕ) (es : List (List ℕ)) → 0 < count → ((q : List ℕ) → place_of (definitions q) < count) → start + own ≤ count → (number : ℕ) → callee start own (places_of definitions es) number < count
callee-below definitions count start own es some below fits number =
    elim (cases_Bool (ltb number own)) [
      | inl is ↦ let less = ltb-true number own is in rw is (omega arith)
      | inr is ↦ rw is (slice_index-places_of definitions count some below es (number - own))
    ]

all_placed : (place : ℕ → ℕ) (reach count : ℕ) (fs : List UnlinkedFn) → count ≤ 2 ^ 32 → ((k : ℕ) → place k < count) → AllByRecursion (λ f. IsLinkedCode reach f.code) fs → AllByRecursion (λ f. IsLinkedCode count f.code) (map (placed place) fs)
all_placed place reach count [] fits below h = tt
all_placed place reach count (f ∷ fs) fits below h = (linked-relocated place reach count f.code fits (λ k lt. below k) h.0, all_placed place reach count fs fits below h.1)

all_append : {X : Type 0} (P : X → Type 0) (xs ys : List X) → AllByRecursion P xs → AllByRecursion P ys → AllByRecursion P (xs ++ ys)
all_append P [] ys p q = q
all_append P (x ∷ xs) ys p q = (p.0, all_append P xs ys p.1 q)

pub calls_below : (definitions : List ℕ → Option Definition) (count start : ℕ) (os : List Unlinked) → count ≤ 2 ^ 32 → 0 < count → ((q : List ℕ) → place_of (definitions q) < count) → start + function_count os ≤ count → AllByRecursion IsUnlinked os
    → AllByRecursion (λ f. IsLinkedCode count f.code) (functions_from definitions start os)
calls_below definitions count start [] fits some below room h = tt
calls_below definitions count start (o ∷ os) fits some below room h =
    let place = callee start (length o.functions) (places_of definitions o.externals) in
    let first = all_placed place (callee_count o) count o.functions fits (callee-below definitions count start (length o.functions) o.externals some below (omega arith)) h.0.calls in
    let others = calls_below definitions count (start + length o.functions) os fits some below (omega arith) h.1 in
    all_append (λ (f : LinkedFn). IsLinkedCode count f.code) (placed_all definitions start o) (functions_from definitions (start + length o.functions) os) first others

-- the functions of an object, by the places of its externals
pub placed_by : (definitions : List ℕ → Option Definition) (start : ℕ) (o : Unlinked) (fs : List UnlinkedFn) (places : List ℕ) → fs ≡ o.functions → places ≡ places_of definitions o.externals
    → map (placed (callee start (length fs) places)) fs ≡ placed_all definitions start o
placed_by definitions start o fs places functions externals =
    ap (λ (gs : List UnlinkedFn). map (placed (callee start (length gs) places)) gs) functions ∙ ap (λ (ps : List ℕ). map (placed (callee start (length o.functions) ps)) o.functions) externals

-- the calls of its functions, by their count and that of its externals
pub calls_by : (definitions : List ℕ → Option Definition) (o : Unlinked) (fs : List UnlinkedFn) (places : List ℕ) → fs ≡ o.functions → places ≡ places_of definitions o.externals → IsUnlinked o
    → AllByRecursion (λ f. IsLinkedCode (length fs + length places) f.code) fs
calls_by definitions o fs places functions externals own =
    let many : length places ≡ length o.externals = ap length externals ∙ length-map o.externals (λ symbol. place_of (definitions symbol)) in
    let count : callee_count o ≡ length fs + length places = omega (arith, many, ap length functions) in
    subst (λ (n : ℕ). AllByRecursion (λ (f : UnlinkedFn). IsLinkedCode n f.code) fs) count (subst (λ (gs : List UnlinkedFn). AllByRecursion (λ (f : UnlinkedFn). IsLinkedCode (callee_count o) f.code) gs) (sym functions) own.calls)
