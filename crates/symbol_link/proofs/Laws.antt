-- Where functions stand in the image, and that each external function is its symbol's definition.
use Rattle.std.proofs.Common.{◌≡◌, ℕ, zero, suc, ◌+◌, List, [], ◌∷◌, ◌++◌, length, take, drop, Bool, true, cond, Option, Some, None, refl, sym, ap, ◌∙◌, subst, append_assoc, arith}
use Rattle.std.proofs.lemmas.List.{append-nil, length-map, length-take}
use Rattle.std.proofs.lemmas.Option.{slice_get-map, slice_get_within, get_or_from_slice_get}
use Rattle.std.proofs.lemmas.Slice.Eq.{bytes_eq-Decides}
use Rattle.std.specs.List.{AllByRecursion, IsDistinct}
use Rattle.std.specs.Option.{option_map, option_or}
use Rattle.std.specs.Prelude.{slice_get, ◌&&◌}
use Rattle.std.specs.Str.{bytes_eq}
use Rattle.object_format.specs.Image.{Linked, LinkedFn}
use Rattle.object_format.specs.Object.{Unlinked, UnlinkedFn, IsUnlinked, symbols_of}
use Rattle.symbol_link.specs.declared.definitions.Definition.{Definition}
use Rattle.symbol_link.specs.Faults.{again, twice_in, twice_after, twice}
use Rattle.symbol_link.specs.Joining.{IsFunction, IsJoined, before}
use Rattle.symbol_link.specs.Linked.{placed, placed_all, places_of, callee, functions_from, entry_symbol}
use Rattle.symbol_link.specs.Symbols.{place_among, defined_by, defined_from, definition_of}
use Rattle.symbol_link.proofs.Apart.{around, apart, distinct_front}
use Rattle.symbol_link.proofs.Defined.{place_among-append, fresh}
use Rattle.symbol_link.proofs.Joined.{length-functions_from}
use Rattle.symbol_link.proofs.Options.{none_first}
use Rattle.symbol_link.proofs.Places.{defined_from-append}

-- ---- places

front : {X : Type 0} (xs ys : List X) (i : ℕ) (x : X) → slice_get xs i ≡ Some x → slice_get (xs ++ ys) i ≡ Some x
front [] ys i x h = absurd cc
front (y ∷ xs) ys zero x h = h
front (y ∷ xs) ys (suc i) x h = front xs ys i x h

behind : {X : Type 0} (xs ys : List X) (i : ℕ) → slice_get (xs ++ ys) (length xs + i) ≡ slice_get ys i
behind [] ys i = let same : 0 + i ≡ i = omega arith in ap (slice_get ys) same
behind (x ∷ xs) ys i = let same : suc (length xs) + i ≡ suc (length xs + i) = omega arith in ap (slice_get (x ∷ (xs ++ ys))) same ∙ behind xs ys i

-- the function in the image of this one, where the functions of its object begin at `start`
abbrev image_function : (List ℕ → Option Definition) → ℕ → Unlinked → UnlinkedFn → LinkedFn
image_function definitions start o f = placed (callee start (length o.functions) (places_of definitions o.externals)) f

own_function : (definitions : List ℕ → Option Definition) (start : ℕ) (o : Unlinked) (j : ℕ) (f : UnlinkedFn) → slice_get o.functions j ≡ Some f → slice_get (placed_all definitions start o) j ≡ Some (image_function definitions start o f)
own_function definitions start o j f h =
    let place = callee start (length o.functions) (places_of definitions o.externals) in
    slice_get-map (placed place) o.functions j ∙ ap (option_map (placed place)) h

stands : (definitions : List ℕ → Option Definition) (start : ℕ) (os : List Unlinked) (k j : ℕ) (o : Unlinked) (f : UnlinkedFn) → slice_get os k ≡ Some o → slice_get o.functions j ≡ Some f
    → slice_get (functions_from definitions start os) (before os k + j) ≡ Some (image_function definitions (start + before os k) o f)
stands definitions start [] k j o f at of = absurd cc
stands definitions start (x ∷ xs) zero j o f at of =
    let same : x ≡ o = cc in
    let here : slice_get (placed_all definitions start x) j ≡ Some (image_function definitions start x f) = own_function definitions start x j f (subst (λ (p : Unlinked). slice_get p.functions j ≡ Some f) (sym same) of) in
    let index : 0 + j ≡ j = omega arith in
    let place : start ≡ start + 0 = omega arith in
    ap (slice_get (functions_from definitions start (x ∷ xs))) index
    ∙ front (placed_all definitions start x) (functions_from definitions (start + length x.functions) xs) j (image_function definitions start x f) here
    ∙ ap (λ (p : Unlinked). Some (image_function definitions start p f)) same
    ∙ ap (λ (n : ℕ). Some (image_function definitions n o f)) place
stands definitions start (x ∷ xs) (suc k) j o f at of =
    let own = placed_all definitions start x in
    let others = functions_from definitions (start + length x.functions) xs in
    let many : length own ≡ length x.functions = length-map x.functions (placed (callee start (length x.functions) (places_of definitions x.externals))) in
    let index : length x.functions + before xs k + j ≡ length own + (before xs k + j) = omega (arith, many) in
    let place : start + length x.functions + before xs k ≡ start + (length x.functions + before xs k) = omega arith in
    ap (slice_get (own ++ others)) index
    ∙ behind own others (before xs k + j)
    ∙ stands definitions (start + length x.functions) xs k j o f at of
    ∙ ap (λ (n : ℕ). Some (image_function definitions n o f)) place

-- ---- definitions

not_before : (earlier : List ℕ → Option Definition) (second : ℕ) (fs : List UnlinkedFn) (j : ℕ) (f : UnlinkedFn) → twice_in earlier second fs ≡ None → slice_get fs j ≡ Some f → f.external ≡ true → earlier f.symbol ≡ None
not_before earlier second [] j f once at external = absurd cc
not_before earlier second (x ∷ xs) zero f once at external =
    let same : x ≡ f = cc in
    let parts = none_first (again x.external x.symbol (earlier x.symbol) second) (twice_in earlier second xs) once in
    let first = fresh x.external x.symbol (earlier x.symbol) second parts.0 (ap (λ (g : UnlinkedFn). g.external) same ∙ external) in
    ap (λ (g : UnlinkedFn). earlier g.symbol) (sym same) ∙ first
not_before earlier second (x ∷ xs) (suc j) f once at external =
    let parts = none_first (again x.external x.symbol (earlier x.symbol) second) (twice_in earlier second xs) once in
    not_before earlier second xs j f parts.1 at external

none_before : (earlier os : List Unlinked) (k j : ℕ) (o : Unlinked) (f : UnlinkedFn) → twice_after earlier os ≡ None → slice_get os k ≡ Some o → slice_get o.functions j ≡ Some f → f.external ≡ true → definition_of (earlier ++ take k os) f.symbol ≡ None
none_before earlier [] k j o f once at of external = absurd cc
none_before earlier (x ∷ xs) zero j o f once at of external =
    let same : x ≡ o = cc in
    let parts = none_first (twice_in (definition_of earlier) (length earlier) x.functions) (twice_after (earlier ++ x ∷ []) xs) once in
    let here = not_before (definition_of earlier) (length earlier) x.functions j f parts.0 (subst (λ (p : Unlinked). slice_get p.functions j ≡ Some f) (sym same) of) external in
    ap (λ (ys : List Unlinked). definition_of ys f.symbol) (append-nil earlier) ∙ here
none_before earlier (x ∷ xs) (suc k) j o f once at of external =
    let parts = none_first (twice_in (definition_of earlier) (length earlier) x.functions) (twice_after (earlier ++ x ∷ []) xs) once in
    ap (λ (ys : List Unlinked). definition_of ys f.symbol) (sym (append_assoc earlier (x ∷ []) (take k xs))) ∙ none_before (earlier ++ x ∷ []) xs k j o f parts.1 at of external

-- the place of an external function among its object's
place_at : (place : ℕ) (fs : List UnlinkedFn) (j : ℕ) (f : UnlinkedFn) → IsDistinct bytes_eq (symbols_of fs) → slice_get fs j ≡ Some f → f.external ≡ true → place_among place fs f.symbol ≡ Some (place + j)
place_at place fs j f distinct at external =
    let within = slice_get_within fs j f at in
    let is = get_or_from_slice_get fs j f f at in
    let parts : fs ≡ take j fs ++ (f ∷ drop (j + 1) fs) = around fs j f within ∙ ap (λ (g : UnlinkedFn). take j fs ++ (g ∷ drop (j + 1) fs)) is in
    let none = apart place (take j fs) f (drop (j + 1) fs) (subst (λ (gs : List UnlinkedFn). IsDistinct bytes_eq (symbols_of gs)) parts distinct) in
    let many : length (take j fs) ≡ j = omega (arith, length-take j fs) in
    let same : bytes_eq f.symbol f.symbol ≡ true = (bytes_eq-Decides f.symbol f.symbol).1 refl in
    let hit : (f.external && bytes_eq f.symbol f.symbol) ≡ true = rw (external, same) refl in
    ap (λ (gs : List UnlinkedFn). place_among place gs f.symbol) parts
    ∙ place_among-append place (take j fs) (f ∷ drop (j + 1) fs) f.symbol
    ∙ ap (λ (p : Option ℕ). option_or p (place_among (place + length (take j fs)) (f ∷ drop (j + 1) fs) f.symbol)) none
    ∙ ap (λ (b : Bool). cond b (Some (place + length (take j fs))) (place_among (place + length (take j fs) + 1) (drop (j + 1) fs) f.symbol)) hit
    ∙ ap (λ (n : ℕ). Some (place + n)) many

all_at : {X : Type 0} (P : X → Type 0) (xs : List X) (k : ℕ) (x : X) → AllByRecursion P xs → slice_get xs k ≡ Some x → P x
all_at P [] k x h at = absurd cc
all_at P (y ∷ xs) zero x h at = let same : y ≡ x = cc in subst P same h.0
all_at P (y ∷ xs) (suc k) x h at = all_at P xs k x h.1 at

-- each external function is its symbol's definition
pub is_defined : (objects : List Unlinked) (k j : ℕ) (o : Unlinked) (f : UnlinkedFn) → twice objects ≡ None → AllByRecursion IsUnlinked objects → IsFunction objects k j o f → f.external ≡ true
    → definition_of objects f.symbol ≡ Some (record { object = k; place = before objects k + j })
is_defined objects k j o f once each h external =
    let within = slice_get_within objects k o h.of_objects in
    let is = get_or_from_slice_get objects k o o h.of_objects in
    let parts : objects ≡ take k objects ++ (o ∷ drop (k + 1) objects) = around objects k o within ∙ ap (λ (p : Unlinked). take k objects ++ (p ∷ drop (k + 1) objects)) is in
    let own = all_at IsUnlinked objects k o each h.of_objects in
    let start = 0 + before objects k in
    let number = 0 + length (take k objects) in
    let q = f.symbol in
    let later = defined_from (number + 1) (start + length o.functions) (drop (k + 1) objects) q in
    let none = none_before [] objects k j o f once h.of_objects h.of_object external in
    let here = place_at start o.functions j f (distinct_front (symbols_of o.functions) o.externals own.distinct) h.of_object external in
    let object_is : number ≡ k = omega (arith, length-take k objects) in
    let place_is : start + j ≡ before objects k + j = omega arith in
    ap (λ (os : List Unlinked). definition_of os q) parts
    ∙ defined_from-append 0 0 (take k objects) (o ∷ drop (k + 1) objects) q
    ∙ ap (λ (d : Option Definition). option_or d (option_or (defined_by number start o.functions q) later)) none
    ∙ ap (λ (p : Option ℕ). option_or (option_map (λ (at : ℕ). record { object = number; place = at }) p) later) here
    ∙ ap (λ (n : ℕ). Some (record { object = n; place = start + j })) object_is
    ∙ ap (λ (n : ℕ). Some (record { object = k; place = n })) place_is

some_is : (x y : Definition) → Some x ≡ Some y → x ≡ y
some_is x y h = cc

-- the image of these objects, function by function
pub joined : (objects : List Unlinked) (entry : Definition) (image : Linked) → twice objects ≡ None → AllByRecursion IsUnlinked objects → definition_of objects entry_symbol ≡ Some entry
    → image ≡ record { entry = entry.place; functions = functions_from (definition_of objects) 0 objects } → IsJoined objects image
joined objects entry image once each is made = subst (IsJoined objects) (sym made) (record {
  count = length-functions_from (definition_of objects) 0 objects;
  placed = λ k j o f h.
      let start : 0 + before objects k ≡ before objects k = omega arith in
      stands (definition_of objects) 0 objects k j o f h.of_objects h.of_object ∙ ap (λ (n : ℕ). Some (image_function (definition_of objects) n o f)) start;
  defined = λ k j o f h external. is_defined objects k j o f once each h external;
  entry = λ k j o f h external symbol.
      let found = is_defined objects k j o f once each h external in
      let same : entry ≡ record { object = k; place = before objects k + j } = some_is entry (record { object = k; place = before objects k + j }) (sym is ∙ ap (definition_of objects) (sym symbol) ∙ found) in
      ap (λ (d : Definition). d.place) same;
})
