-- What an input is lowered to, where no function has a fault, keeps the facts of the intermediate form.
use Rattle.std.proofs.Common.{◌≡◌, ℕ, suc, ◌+◌, ◌<◌, ◌≤◌, ◌^◌, List, [], ◌∷◌, ◌++◌, length, map, Bool, true, false, ◌||◌, Option, Some, None, Result, Ok, Err, refl, sym, ap, ◌∙◌, subst, arith}
use Rattle.std.specs.Prelude.{sum, take}
use Rattle.std.specs.List.{AllByRecursion, IsDistinct}
use Rattle.std.specs.Str.{bytes_eq}
use Rattle.std.proofs.lemmas.Bool.{or_parts}
use Rattle.std.proofs.lemmas.List.{length-append, length-map}
use Rattle.std.proofs.lemmas.List.Sums.{sum_by-take-le}
use Rattle.unit_input.specs.Inputs as input
use Rattle.unit_input.specs.Widths.{Scope, callees_of, scope_of, params_width, fn_signature, external_signature}
use Rattle.unit_input.specs.Rules as rules
use Rattle.unit_ir.specs.declared.fault.UnitFault.{UnitFault}
use Rattle.unit_ir.specs.Units.{PlainFn, PlainUnit, IsSymbol, IsFn, callee_count, IsUnit}
use Rattle.unit_lower.specs.Slots.{local_slots}
use Rattle.unit_lower.specs.Lowering.{lower_stmts}
use Rattle.unit_lower.specs.declared.assertions.Failure.{Failure}
use Rattle.unit_lower.specs.Assertions.{assertions, first_failure}
use Rattle.unit_lower.specs.Wide.{is_over, are_wide_stmts}
use Rattle.unit_lower.specs.LoweredUnit.{lowered_body, is_too_wide, with_width, failure_of, lowered_fn, named, first_fault, or_unit, lowered}
use Rattle.unit_lower.proofs.Nexts.{stmts_next_up}
use Rattle.unit_lower.proofs.Places.{low_width}
use Rattle.unit_lower.proofs.InRange.{stmts_in_range}

symbol_is : (s : List ℕ) → rules.IsSymbol s → IsSymbol s
symbol_is s h = record { some = h.some; short = h.short; signs = h.signs }

-- a function without a fault is not too wide
not_wide : (too_wide : Bool) (failure : Option Failure) → with_width too_wide failure ≡ None → too_wide ≡ false
not_wide true None h = cc
not_wide false None h = refl
not_wide true (Some f) h = cc
not_wide false (Some f) h = refl

-- a function of a lowered unit
pub lowered_is : (x : input.PlainInput) (f : input.PlainFn) → rules.IsFn (scope_of x f) f → failure_of (scope_of x f) f ≡ None → IsFn (length (callees_of x)) (lowered_fn x f)
lowered_is x f ok none =
    let s = scope_of x f in
    let narrow = not_wide (is_too_wide s f) (first_failure 0 (assertions f.body)) none in
    let front = or_parts (is_over (lowered_body s f).next || is_over f.«result») (are_wide_stmts s f.body) narrow in
    let few : (lowered_body s f).next ≤ 255 = low_width (lowered_body s f).next (or_parts (is_over (lowered_body s f).next) (is_over f.«result») front.0).0 in
    let up : local_slots s ≤ (lowered_body s f).next = stmts_next_up s f.body (local_slots s) in
    let params : params_width f ≤ local_slots s = sum_by-take-le (λ n. n) f.locals f.params in
    record {
      symbol = symbol_is f.symbol ok.symbol;
      slots = few;
      params = omega (arith, up, params);
      body = stmts_in_range s (lowered_body s f).next f.body (local_slots s) ok.body front.1 (omega arith) (omega arith) few;
    }

-- where the first fault of functions is none, each has none
no_failure : (n : ℕ) (failure : Option Failure) (later : Option UnitFault) → named n failure later ≡ None → (failure ≡ None) × (later ≡ None)
no_failure n None later h = (refl, h)
no_failure n (Some f) later h = cc

all_lowered : (x : input.PlainInput) (count n : ℕ) (fs : List input.PlainFn) → count ≡ length (callees_of x) → AllByRecursion (λ f. rules.IsFn (scope_of x f) f) fs → first_fault x n fs ≡ None → AllByRecursion (IsFn count) (map (lowered_fn x) fs)
all_lowered x count n [] same ok none = tt
all_lowered x count n (f ∷ fs) same ok none =
    let parts = no_failure n (failure_of (scope_of x f) f) (first_fault x (suc n) fs) none in
    (subst (λ k. IsFn k (lowered_fn x f)) (sym same) (lowered_is x f ok.0 parts.0), all_lowered x count (suc n) fs same ok.1 parts.1)

externals_are : (es : List input.PlainExternal) → AllByRecursion rules.IsExternal es → AllByRecursion IsSymbol (map (λ e. e.symbol) es)
externals_are [] ok = tt
externals_are (e ∷ es) ok = (symbol_is e.symbol ok.0.symbol, externals_are es ok.1)

same_symbols : (x : input.PlainInput) (fs : List input.PlainFn) → map (λ f. f.symbol) (map (lowered_fn x) fs) ≡ map (λ f. f.symbol) fs
same_symbols x [] = refl
same_symbols x (f ∷ fs) = ap (λ ss. f.symbol ∷ ss) (same_symbols x fs)

abbrev lowered_parts : input.PlainInput → PlainUnit
lowered_parts x = record { functions = map (lowered_fn x) x.functions; externals = map (λ e. e.symbol) x.externals }

count_is : (x : input.PlainInput) → callee_count (lowered_parts x) ≡ length (callees_of x)
count_is x =
    let functions = length-map x.functions (lowered_fn x) in
    let externals = length-map x.externals (λ e. e.symbol) in
    let all = length-append (map fn_signature x.functions) (map external_signature x.externals) in
    omega (arith, functions, externals, all, length-map x.functions fn_signature, length-map x.externals external_signature)

pub unit_is : (x : input.PlainInput) → rules.IsInput x → first_fault x 0 x.functions ≡ None → IsUnit (lowered_parts x)
unit_is x ok none = record {
  functions = subst (λ n. n < 2 ^ 32) (sym (length-map x.functions (lowered_fn x))) ok.function_count;
  externals = subst (λ n. n < 2 ^ 32) (sym (length-map x.externals (λ e. e.symbol))) ok.external_count;
  symbols = externals_are x.externals ok.externals;
  distinct = subst (λ ss. IsDistinct bytes_eq (ss ++ map (λ e. e.symbol) x.externals)) (sym (same_symbols x x.functions)) ok.distinct;
  each = all_lowered x (callee_count (lowered_parts x)) 0 x.functions (count_is x) ok.functions none;
}

-- where an input is lowered to a unit, this keeps the facts of a unit
kept : (u : PlainUnit) (fault : Option UnitFault) (v : PlainUnit) → (fault ≡ None → IsUnit u) → or_unit u fault ≡ Ok v → IsUnit v
kept u None v is h = let same : u ≡ v = cc in subst IsUnit same (is refl)
kept u (Some fault) v is h = cc

pub lowered_unit : (x : input.PlainInput) (u : PlainUnit) → rules.IsInput x → lowered x ≡ Ok u → IsUnit u
lowered_unit x u ok is = kept (lowered_parts x) (first_fault x 0 x.functions) u (unit_is x ok) is
