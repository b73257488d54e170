-- Defining one function after the other.
use Rattle.std.proofs.Common.{◌≡◌, ℕ, suc, ◌+◌, ◌<◌, List, [], ◌∷◌, ◌++◌, length, take, drop, get_or, Bool, true, false, cond, Option, Some, None, Ok, Err, refl, sym, ap, ◌∙◌, subst, arith, inl, inr}
use Rattle.std.proofs.lemmas.Bool.{cases_Bool}
use Rattle.std.proofs.lemmas.List.{take_more, length-take}
use Rattle.std.proofs.lemmas.Slice.Eq.{bytes_eq-Decides}
use Rattle.std.specs.List.{IsDistinct}
use Rattle.std.specs.Option.{option_map, option_or}
use Rattle.std.specs.Prelude.{◌&&◌}
use Rattle.std.specs.Str.{bytes_eq}
use Rattle.lar_bytes.specs.declared.memory.OrMemory.{OrMemory}
use Rattle.lar_bytes.specs.declared.memory.OrMemory.TheVariants as errors
use Rattle.object_format.specs.Object.{UnlinkedFn, symbols_of}
use Rattle.symbol_link.specs.declared.definitions.Definition.{Definition}
use Rattle.symbol_link.specs.declared.fault.LinkFault.{LinkFault}
use Rattle.symbol_link.specs.Defining.{DefinesOne}
use Rattle.symbol_link.specs.Faults.{FaultIs, again, twice_in}
use Rattle.symbol_link.specs.Symbols.{place_among, defined_by}
use Rattle.symbol_link.proofs.Apart.{around, defined_before}
use Rattle.symbol_link.proofs.Options.{option_or-none, option_or-assoc, option_map-or, option_or-cond}

-- ---- definitions among functions, before more functions

pub place_among-append : (place : ℕ) (xs ys : List UnlinkedFn) (q : List ℕ) → place_among place (xs ++ ys) q ≡ option_or (place_among place xs q) (place_among (place + length xs) ys q)
place_among-append place [] ys q = let same : place ≡ place + 0 = omega arith in ap (λ (n : ℕ). place_among n ys q) same
place_among-append place (x ∷ xs) ys q =
    let same : place + 1 + length xs ≡ place + suc (length xs) = omega arith in
    let more = place_among-append (place + 1) xs ys q ∙ ap (λ (n : ℕ). option_or (place_among (place + 1) xs q) (place_among n ys q)) same in
    let b = x.external && bytes_eq x.symbol q in
    ap (λ (o : Option ℕ). cond b (Some place) o) more ∙ sym (option_or-cond b (Some place) (place_among (place + 1) xs q) (place_among (place + suc (length xs)) ys q))

pub defined_by-append : (object place : ℕ) (xs ys : List UnlinkedFn) (q : List ℕ) → defined_by object place (xs ++ ys) q ≡ option_or (defined_by object place xs q) (defined_by object (place + length xs) ys q)
defined_by-append object place xs ys q =
    let at : ℕ → Definition = λ found. record { object = object; place = found } in
    ap (λ (o : Option ℕ). option_map at o) (place_among-append place xs ys q) ∙ option_map-or at (place_among place xs q) (place_among (place + length xs) ys q)

-- ---- a symbol that is defined again among functions

pub twice_in-append : (earlier : List ℕ → Option Definition) (object : ℕ) (xs ys : List UnlinkedFn) → twice_in earlier object (xs ++ ys) ≡ option_or (twice_in earlier object xs) (twice_in earlier object ys)
twice_in-append earlier object [] ys = refl
twice_in-append earlier object (x ∷ xs) ys =
    let first = again x.external x.symbol (earlier x.symbol) object in
    ap (λ (o : Option LinkFault). option_or first o) (twice_in-append earlier object xs ys) ∙ sym (option_or-assoc first (twice_in earlier object xs) (twice_in earlier object ys))

-- definitions that are the same for each symbol refuse the same
pub twice_in_same : (f g : List ℕ → Option Definition) → ((q : List ℕ) → f q ≡ g q) → (object : ℕ) (fs : List UnlinkedFn) → twice_in f object fs ≡ twice_in g object fs
twice_in_same f g h object [] = refl
twice_in_same f g h object (x ∷ xs) = rw (h x.symbol, twice_in_same f g h object xs) refl

-- ---- one function more

-- the function is what its object defines next
at_end : (object place : ℕ) (f : UnlinkedFn) (q : List ℕ) → defined_by object place (f ∷ []) q ≡ cond (f.external && bytes_eq f.symbol q) (Some (record { object = object; place = place })) None
at_end object place f q = elim (cases_Bool (f.external && bytes_eq f.symbol q)) [ inl e ↦ rw e refl | inr e ↦ rw e refl ]

pub fresh : (external : Bool) (symbol : List ℕ) (old : Option Definition) (object : ℕ) → again external symbol old object ≡ None → external ≡ true → old ≡ None
fresh true symbol None object e h = refl
fresh true symbol (Some d) object e h = absurd cc
fresh false symbol old object e h = absurd cc

and_parts : (a b : Bool) → (a && b) ≡ true → (a ≡ true) × (b ≡ true)
and_parts true b e = (refl, e)
and_parts false b e = absurd cc

-- what is defined after the function, by what was before
put : (old new : List ℕ → Option Definition) (f : UnlinkedFn) (object place : ℕ) → again f.external f.symbol (old f.symbol) object ≡ None
    → ((q : List ℕ) → new q ≡ cond (f.external && bytes_eq f.symbol q) (Some (record { object = object; place = place })) (old q))
    → (q : List ℕ) → new q ≡ option_or (old q) (defined_by object place (f ∷ []) q)
put old new f object place none writes q =
    elim (cases_Bool (f.external && bytes_eq f.symbol q)) [
      | inl hit ↦
          let parts = and_parts f.external (bytes_eq f.symbol q) hit in
          let same : f.symbol ≡ q = (bytes_eq-Decides f.symbol q).0 parts.1 in
          let before : old q ≡ None = subst (λ (s : List ℕ). old s ≡ None) same (fresh f.external f.symbol (old f.symbol) object none parts.0) in
          rw (writes q, before, at_end object place f q, hit) refl
      | inr miss ↦ rw (writes q, at_end object place f q, miss) (sym (option_or-none (old q)))
    ]

-- the place of this function, and that no function of its object before it has its symbol
before_is : (earlier old : List ℕ → Option Definition) (fs : List UnlinkedFn) (k : ℕ) (d : UnlinkedFn) (object start : ℕ) → IsDistinct bytes_eq (symbols_of fs) → k < length fs
    → ((q : List ℕ) → old q ≡ option_or (earlier q) (defined_by object start (take k fs) q))
    → old (get_or fs k d).symbol ≡ earlier (get_or fs k d).symbol
before_is earlier old fs k d object start distinct lt was =
    let s = (get_or fs k d).symbol in
    was s ∙ ap (λ (o : Option Definition). option_or (earlier s) o) (defined_before object start fs k d distinct lt) ∙ option_or-none (earlier s)

pub record DefinedSoFar (earlier now : List ℕ → Option Definition) (fs : List UnlinkedFn) (k object start : ℕ) : Type 0 where
  pub none : twice_in earlier object (take k fs) ≡ None
  pub found : (q : List ℕ) → now q ≡ option_or (earlier q) (defined_by object start (take k fs) q)

pub defines_more : (earlier old new : List ℕ → Option Definition) (fs : List UnlinkedFn) (k : ℕ) (d : UnlinkedFn) (object start : ℕ) (x : Unit {0}) → IsDistinct bytes_eq (symbols_of fs) → k < length fs
    → DefinedSoFar earlier old fs k object start → DefinesOne old new (get_or fs k d) object (start + k) (Ok x) → DefinedSoFar earlier new fs (k + 1) object start
defines_more earlier old new fs k d object start x distinct lt so_far one =
    let f = get_or fs k d in
    let same = before_is earlier old fs k d object start distinct lt so_far.found in
    let longer = take_more fs k d lt in
    let none : again f.external f.symbol (earlier f.symbol) object ≡ None = ap (λ (o : Option Definition). again f.external f.symbol o object) (sym same) ∙ one.0 in
    let many : length (take k fs) ≡ k = omega (arith, length-take k fs) in
    record {
      none = ap (twice_in earlier object) longer ∙ twice_in-append earlier object (take k fs) (f ∷ []) ∙ rw (so_far.none, none) refl;
      found = λ q.
          let added : defined_by object start (take (k + 1) fs) q ≡ option_or (defined_by object start (take k fs) q) (defined_by object (start + k) (f ∷ []) q) =
          ap (λ (ys : List UnlinkedFn). defined_by object start ys q) longer ∙ defined_by-append object start (take k fs) (f ∷ []) q ∙ ap (λ (n : ℕ). option_or (defined_by object start (take k fs) q) (defined_by object (start + n) (f ∷ []) q)) many in
          put old new f object (start + k) one.0 one.1 q
          ∙ ap (λ (o : Option Definition). option_or o (defined_by object (start + k) (f ∷ []) q)) (so_far.found q)
          ∙ option_or-assoc (earlier q) (defined_by object start (take k fs) q) (defined_by object (start + k) (f ∷ []) q)
          ∙ ap (λ (o : Option Definition). option_or (earlier q) o) (sym added);
    }

pub defines_fault : (earlier old new : List ℕ → Option Definition) (fs : List UnlinkedFn) (k : ℕ) (d : UnlinkedFn) (object start : ℕ) (e : OrMemory LinkFault) → IsDistinct bytes_eq (symbols_of fs) → k < length fs
    → DefinedSoFar earlier old fs k object start → DefinesOne old new (get_or fs k d) object (start + k) (Err e) → FaultIs e (twice_in earlier object fs)
defines_fault earlier old new fs k d object start errors.Memory distinct lt so_far one = tt
defines_fault earlier old new fs k d object start (errors.Refused fault) distinct lt so_far one =
    let f = get_or fs k d in
    let same = before_is earlier old fs k d object start distinct lt so_far.found in
    let here : again f.external f.symbol (earlier f.symbol) object ≡ Some fault = ap (λ (o : Option Definition). again f.external f.symbol o object) (sym same) ∙ one in
    ap (twice_in earlier object) (around fs k d lt) ∙ twice_in-append earlier object (take k fs) (f ∷ drop (k + 1) fs) ∙ rw (so_far.none, here) refl
