-- The fault of a unit stands in one of its functions.
use Rattle.std.proofs.Common.{◌≡◌, ℕ, zero, suc, ◌+◌, ◌<◌, if◌then◌else◌, List, [], ◌∷◌, map, length, Bool, true, false, Option, Some, None, Result, Ok, Err, refl, sym, ap, ◌∙◌, subst, arith, inl, inr}
use Rattle.std.specs.Prelude.{nat_lt, slice_get, ◌⊎◌, ℤ, pos}
use Rattle.std.specs.Ordering.{int_eq}
use Rattle.std.proofs.lemmas.Bool.{cases_Bool}
use Rattle.std.proofs.lemmas.List.{length-map}
use Rattle.object_format.specs.Object.{Unlinked}
use Rattle.object_format.specs.Version.{max_code}
use Rattle.unit_input.specs.Inputs as input
use Rattle.unit_input.specs.Exprs.{PlainExpr}
use Rattle.unit_input.specs.Widths.{scope_of}
use Rattle.unit_ir.specs.declared.fault.UnitFault.{UnitFault}
use Rattle.unit_ir.specs.Units.{PlainFn, PlainUnit}
use Rattle.unit_lower.specs.Assertions.{assertions, value, judged, first_failure}
use Rattle.unit_lower.specs.LoweredUnit.{is_too_wide, with_width, failure_of, lowered_fn, named, first_fault, or_unit, lowered}
use Rattle.unit_opt.specs.Optimised.{optimised}
use Rattle.unit_emit.specs.Code.{bytes}
use Rattle.unit_emit.specs.Object.{code_of, first_long, long_or}
use Rattle.unit_object.specs.FaultPlace.{IsOfAssertion, IsOfFunction, StandsIn}
use Rattle.unit_object.specs.Interface.{Interface}
use Rattle.unit_object.specs.UnitObject.{object_parts, object_after, object_of}
use Rattle.unit_object.proofs.Shown.{input_name, unit_name, optimised_shown, lowered_shown}

-- ---- of one function, whose fault names the function by a number n

-- an assertion of those from number k on fails
record AssertionFails (k count : ℕ) (fault : UnitFault) : Type 0 where
  pub code : (fault.code ≡ 30) ⊎ (fault.code ≡ 31)
  pub below : fault.assertion < k + count

judged_fails : (n k others : ℕ) (v : Option ℤ) (later : _) (fault : UnitFault) → (named n later None ≡ Some fault → AssertionFails (suc k) others fault) → named n (judged k v later) None ≡ Some fault → AssertionFails k (suc others) fault
judged_fails n k others None later fault rest h = let code : 31 ≡ fault.code = cc in let number : k ≡ fault.assertion = cc in record { code = inr (sym code); below = omega (arith, number) }
judged_fails n k others (Some v) later fault rest h =
    elim (cases_Bool (int_eq v (pos 0))) [
      | inl wrong ↦
          let is : Some (record { code = 30; function = n; assertion = k }) ≡ Some fault = sym (ap (λ b. named n (if b then Some (record { code = 30; number = k }) else later) None) wrong) ∙ h in
          let code : 30 ≡ fault.code = cc in
          let number : k ≡ fault.assertion = cc in
          record { code = inl (sym code); below = omega (arith, number) }
      | inr right ↦
          let after = rest (sym (ap (λ b. named n (if b then Some (record { code = 30; number = k }) else later) None) right) ∙ h) in
          let below = after.below in
          record { code = after.code; below = omega (arith, below) }
    ]

first_fails : (n k : ℕ) (es : List PlainExpr) (fault : UnitFault) → named n (first_failure k es) None ≡ Some fault → AssertionFails k (length es) fault
first_fails n k [] fault h = absurd cc
first_fails n k (e ∷ es) fault h = judged_fails n k (length es) (value e) (first_failure (suc k) es) fault (λ later. first_fails n (suc k) es fault later) h

failed : (n : ℕ) (f : input.PlainFn) (too_wide : Bool) (failure : _) (fault : UnitFault) → (named n failure None ≡ Some fault → AssertionFails 0 (length (assertions f.body)) fault) → named n (with_width too_wide failure) None ≡ Some fault → IsOfAssertion f fault ⊎ IsOfFunction fault
failed n f too_wide (Some failure) fault early h = let is = early h in let below = is.below in inl (record { code = is.code; assertion = omega (arith, below) })
failed n f true None fault early h = let code : 32 ≡ fault.code = cc in let none : 0 ≡ fault.assertion = cc in inr (record { code = inl (sym code); no_assertion = sym none })
failed n f false None fault early h = absurd cc

-- ---- of functions, the first of which has number n

record IsAmong (n : ℕ) (fs : List input.PlainFn) (fault : UnitFault) : Type 0 where
  pub place : ℕ
  pub function : input.PlainFn
  pub there : slice_get fs place ≡ Some function
  pub number : fault.function ≡ n + place
  pub sort : IsOfAssertion function fault ⊎ IsOfFunction fault

here_or_later : (n : ℕ) (f : input.PlainFn) (fs : List input.PlainFn) (failure : _) (later : Option UnitFault) (fault : UnitFault) → (later ≡ Some fault → IsAmong (suc n) fs fault) → (named n failure None ≡ Some fault → IsOfAssertion f fault ⊎ IsOfFunction fault)
    → named n failure later ≡ Some fault → IsAmong n (f ∷ fs) fault
here_or_later n f fs None later fault others own h =
    let found = others h in
    let number = found.number in
    record { place = suc found.place; function = found.function; there = found.there; number = omega (arith, number); sort = found.sort }
here_or_later n f fs (Some failure) later fault others own h =
    let number : n ≡ fault.function = cc in
    record { place = 0; function = f; there = refl; number = omega (arith, number); sort = own h }

first_among : (x : input.PlainInput) (n : ℕ) (fs : List input.PlainFn) (fault : UnitFault) → first_fault x n fs ≡ Some fault → IsAmong n fs fault
first_among x n [] fault h = absurd cc
first_among x n (f ∷ fs) fault h =
    let s = scope_of x f in
    let failure = first_failure 0 (assertions f.body) in
    here_or_later n f fs (failure_of s f) (first_fault x (suc n) fs) fault (λ later. first_among x (suc n) fs fault later) (λ own. failed n f (is_too_wide s f) failure fault (λ early. first_fails n 0 (assertions f.body) fault early) own) h

stands : (x : input.PlainInput) (fault : UnitFault) → IsAmong 0 x.functions fault → StandsIn x fault
stands x fault h =
    let number = h.number in
    let same : h.place ≡ fault.function = omega (arith, number) in
    record { function = h.function; number = subst (λ k. slice_get x.functions k ≡ Some h.function) same h.there; sort = h.sort }

lowered_stands : (x : input.PlainInput) (w : PlainUnit) (m : Option UnitFault) (fault : UnitFault) → first_fault x 0 x.functions ≡ m → or_unit w m ≡ Err fault → StandsIn x fault
lowered_stands x w None fault is h = absurd cc
lowered_stands x w (Some f) fault is h = let same : f ≡ fault = cc in stands x fault (first_among x 0 x.functions fault (is ∙ ap Some same))

-- ---- of code that is too long

long_below : (n k : ℕ) (fs : List PlainFn) → first_long n fs ≡ Some k → k < n + length fs
long_below n k [] h = absurd cc
long_below n k (f ∷ fs) h =
    elim (cases_Bool (nat_lt max_code (bytes (code_of f)))) [
      | inl long ↦ let same : Some n ≡ Some k = sym (ap (λ b. if b then Some n else first_long (n + 1) fs) long) ∙ h in let is : n ≡ k = cc in omega (arith, is)
      | inr short ↦ let below = long_below (n + 1) k fs (sym (ap (λ b. if b then Some n else first_long (n + 1) fs) short) ∙ h) in omega (arith, below)
    ]

get_below : {X : Type 0} (xs : List X) (k : ℕ) → k < length xs → (x : X) × (slice_get xs k ≡ Some x)
get_below [] k h = absurd (omega (arith, h))
get_below (x ∷ xs) zero h = (x, refl)
get_below (x ∷ xs) (suc k) h = get_below xs k (omega (arith, h))

emitted_stands : (x : input.PlainInput) (o : Unlinked) (fs : List PlainFn) (m : Option ℕ) (fault : UnitFault) → length fs ≡ length x.functions → first_long 0 fs ≡ m → long_or o m ≡ Err fault → StandsIn x fault
emitted_stands x o fs None fault count is h = absurd cc
emitted_stands x o fs (Some k) fault count is h =
    let same : k ≡ fault.function = cc in
    let code : 33 ≡ fault.code = cc in
    let none : 0 ≡ fault.assertion = cc in
    let below = long_below 0 k fs is in
    let found = get_below x.functions fault.function (omega (arith, below, count, same)) in
    record { function = found.0; number = found.1; sort = inr (record { code = inr (sym code); no_assertion = sym none }) }

count_kept : (x : input.PlainInput) (u : PlainUnit) → lowered x ≡ Ok u → length (optimised x.level u).functions ≡ length x.functions
count_kept x u h =
    sym (length-map (optimised x.level u).functions unit_name)
    ∙ ap (λ (i : Interface). length i.functions) (optimised_shown x.level u ∙ lowered_shown x u h)
    ∙ length-map x.functions input_name

-- ---- the unit

stands_after : (x : input.PlainInput) (r : Result PlainUnit UnitFault) (fault : UnitFault) → lowered x ≡ r → object_after x.level r ≡ Err fault → StandsIn x fault
stands_after x (Ok u) fault is h =
    let fs = (optimised x.level u).functions in
    emitted_stands x (object_parts (optimised x.level u)) fs (first_long 0 fs) fault (count_kept x u is) refl h
stands_after x (Err f) fault is h =
    let same : f ≡ fault = cc in
    lowered_stands x (record { functions = map (lowered_fn x) x.functions; externals = map (λ e. e.symbol) x.externals }) (first_fault x 0 x.functions) fault refl (is ∙ ap Err same)

pub object_of-fault : (x : input.PlainInput) (fault : UnitFault) → object_of x ≡ Err fault → StandsIn x fault
unfolding object_of
object_of-fault x fault h = stands_after x (lowered x) fault refl h
