-- The functions of a unit, one after the other.
use Rattle.std.proofs.Common.{◌≡◌, ℕ, zero, suc, ◌+◌, ◌<◌, ◌≤◌, Bool, true, false, ◌||◌, List, [], ◌∷◌, ◌++◌, length, map, take, drop, get_or, Option, Some, None, Result, Ok, Err, refl, sym, ap, ◌∙◌, subst, arith, append_assoc}
use Rattle.std.specs.Prelude.{sum}
use Rattle.std.specs.List.{AllByRecursion}
use Rattle.std.proofs.lemmas.List.{map-append, take_all}
use Rattle.std.proofs.lemmas.List.Sums.{sum_by-take-le}
use Rattle.std.proofs.lemmas.Bool.{or_parts, lt-ltb}
use Rattle.std.proofs.Math.Seq.{take-suc, drop-cons}
use Rattle.std.proofs.Math.Numerals.{suc-eq-add-one}
use Rattle.std.proofs.Math.ListN.{drop_of_length-le}
use Rattle.unit_input.specs.declared.function.UnitFn.{UnitFn}
use Rattle.unit_input.specs.declared.function.ExternalFn.{ExternalFn}
use Rattle.unit_input.specs.InputView as input
use Rattle.unit_input.specs.Inputs.{PlainFn, PlainInput}
use Rattle.unit_input.specs.Widths.{Scope, Signature, params_width, fn_signature, external_signature, scope_of, callees_of}
use Rattle.unit_input.specs.Rules.{IsFn}
use Rattle.unit_ir.specs.declared.fault.UnitFault.{UnitFault}
use Rattle.unit_ir.specs.declared.function.IrFn.{IrFn}
use Rattle.unit_ir.specs.Units.{fn_view}
use Rattle.unit_ir.specs.Units as ir
use Rattle.unit_ir.specs.StmtView.{stmts_view}
use Rattle.unit_lower.specs.declared.assertions.Failure.{Failure}
use Rattle.unit_lower.specs.declared.scope.Signature.{Signature as SignatureOfCode}
use Rattle.unit_lower.specs.ScopeView.{signature_view, scope_in}
use Rattle.unit_lower.specs.Slots.{local_slots}
use Rattle.unit_lower.specs.Assertions.{assertions, first_failure}
use Rattle.unit_lower.specs.Wide.{is_over, are_wide_stmts}
use Rattle.unit_lower.specs.LoweredUnit.{lowered_body, is_too_wide, with_width, failure_of, lowered_in, lowered_fn, named, first_fault, or_unit, lowered}
use Rattle.unit_lower.specs.UnitResult.{or_failure, or_fault, functions_or}
use Rattle.unit_lower.proofs.Nexts.{stmts_next_up}
use Rattle.unit_lower.proofs.Places.{low_width}
use Rattle.unit_lower.proofs.Over.{not_over}

-- A LIST THAT IS MADE FROM ANOTHER, behind a front

pub mapped_more : {X Y Z : Type 0} (view : X → Z) (sig : Y → Z) (front : List Z) (made : List X) (ys : List Y) (i : ℕ) (d : Y) (x : X)
    → i < length ys → map view made ≡ front ++ map sig (take i ys) → view x ≡ sig (get_or ys i d) → map view (made ++ x ∷ []) ≡ front ++ map sig (take (i + 1) ys)
mapped_more view sig front made ys i d x h so_far is =
    map-append view made (x ∷ [])
    ∙ ap (λ l. l ++ view x ∷ []) so_far
    ∙ append_assoc front (map sig (take i ys)) (view x ∷ [])
    ∙ ap (λ z. front ++ (map sig (take i ys) ++ z ∷ [])) is
    ∙ ap (λ l. front ++ l) (sym (map-append sig (take i ys) (get_or ys i d ∷ [])))
    ∙ ap (λ l. front ++ map sig l) (sym (take-suc ys i d h))
    ∙ ap (λ k. front ++ map sig (take k ys)) (suc-eq-add-one i)

pub map_map : {X Y Z : Type 0} (f : Y → Z) (g : X → Y) (xs : List X) → map f (map g xs) ≡ map (λ x. f (g x)) xs
map_map f g [] = refl
map_map f g (x ∷ xs) = ap (λ l. f (g x) ∷ l) (map_map f g xs)

-- each function keeps the rules
pub each_is : (s : PlainFn → Scope) (fs : List UnitFn) (i : ℕ) (d : UnitFn) → AllByRecursion (λ f. IsFn (s f) f) (map input.fn_view fs) → i < length fs → IsFn (s (input.fn_view (get_or fs i d))) (input.fn_view (get_or fs i d))
each_is s [] i d all h = absurd (omega (arith, h))
each_is s (f ∷ fs) zero d all h = all.0
each_is s (f ∷ fs) (suc i) d all h = each_is s fs i d all.1 (omega (arith, h))

-- the scope of a function is that of the input
pub same_scope : (x : PlainInput) (callees : List SignatureOfCode) (f : PlainFn) → map signature_view callees ≡ callees_of x → scope_in callees f ≡ scope_of x f
same_scope x callees f is = ap (λ (cs : List Signature). record { locals = f.locals; «result» = f.«result»; callees = cs }) is

pub is_in_scope : (x : PlainInput) (callees : List SignatureOfCode) (f : PlainFn) → map signature_view callees ≡ callees_of x → IsFn (scope_of x f) f → IsFn (scope_in callees f) f
is_in_scope x callees f is ok = subst (λ s. IsFn s f) (sym (same_scope x callees f is)) ok

-- THE FIRST FAULT

pub no_fault_yet : (x : PlainInput) (n : ℕ) (fs : List UnitFn) (i : ℕ) (d : UnitFn) → i < length fs → failure_of (scope_of x (input.fn_view (get_or fs i d))) (input.fn_view (get_or fs i d)) ≡ None
    → first_fault x n (map input.fn_view (drop i fs)) ≡ first_fault x (suc n) (map input.fn_view (drop (i + 1) fs))
no_fault_yet x n fs i d h none =
    ap (λ l. first_fault x n (map input.fn_view l)) (drop-cons fs i d h)
    ∙ ap (λ o. named n o (first_fault x (suc n) (map input.fn_view (drop (suc i) fs)))) none
    ∙ ap (λ k. first_fault x (suc n) (map input.fn_view (drop k fs))) (suc-eq-add-one i)

pub fault_here : (x : PlainInput) (n : ℕ) (fs : List UnitFn) (i : ℕ) (d : UnitFn) (failure : Failure) → i < length fs → failure_of (scope_of x (input.fn_view (get_or fs i d))) (input.fn_view (get_or fs i d)) ≡ Some failure
    → first_fault x n (map input.fn_view (drop i fs)) ≡ Some (record { code = failure.code; function = n; assertion = failure.number })
fault_here x n fs i d failure h is =
    ap (λ l. first_fault x n (map input.fn_view l)) (drop-cons fs i d h)
    ∙ ap (λ o. named n o (first_fault x (suc n) (map input.fn_view (drop (suc i) fs)))) is

-- ONE FUNCTION

pub failure_first : (s : Scope) (f : PlainFn) (failure : Failure) → first_failure 0 (assertions f.body) ≡ Some failure → failure_of s f ≡ Some failure
failure_first s f failure is = ap (with_width (is_too_wide s f)) is

pub failure_wide : (s : Scope) (f : PlainFn) → first_failure 0 (assertions f.body) ≡ None → is_too_wide s f ≡ true → failure_of s f ≡ Some (record { code = 32; number = 0 })
failure_wide s f none wide = ap (with_width (is_too_wide s f)) none ∙ ap (λ b. with_width b None) wide

pub no_failure : (s : Scope) (f : PlainFn) → first_failure 0 (assertions f.body) ≡ None → is_too_wide s f ≡ false → failure_of s f ≡ None
no_failure s f none narrow = ap (with_width (is_too_wide s f)) none ∙ ap (λ b. with_width b None) narrow

-- what is not too wide has widths of a byte
narrow_parts : (s : Scope) (f : PlainFn) → is_too_wide s f ≡ false → ((lowered_body s f).next ≤ 255) × (f.«result» ≤ 255)
narrow_parts s f narrow =
    let front = (or_parts (is_over (lowered_body s f).next || is_over f.«result») (are_wide_stmts s f.body) narrow).0 in
    let parts = or_parts (is_over (lowered_body s f).next) (is_over f.«result») front in
    (low_width (lowered_body s f).next parts.0, low_width f.«result» parts.1)

pub narrow_result : (s : Scope) (f : PlainFn) → is_too_wide s f ≡ false → f.«result» ≤ 255
narrow_result s f narrow = (narrow_parts s f narrow).1

pub narrow_params : (s : Scope) (f : PlainFn) → s.locals ≡ f.locals → is_too_wide s f ≡ false → params_width f ≤ 255
narrow_params s f same narrow =
    let slots = (narrow_parts s f narrow).0 in
    let up = stmts_next_up s f.body (local_slots s) in
    let front : params_width f ≤ sum f.locals = sum_by-take-le (λ n. n) f.locals f.params in
    let is : local_slots s ≡ sum f.locals = ap sum same in
    omega (arith, slots, up, front, is)

-- WHAT THE LOOPS HAVE

abbrev pub sig_of : UnitFn → Signature
sig_of f = fn_signature (input.fn_view f)

abbrev pub external_sig_of : ExternalFn → Signature
external_sig_of e = external_signature (input.external_view e)

abbrev pub lowered_of : PlainInput → UnitFn → ir.PlainFn
lowered_of x f = lowered_fn x (input.fn_view f)

pub mapped_all : {X Y Z : Type 0} (view : X → Z) (sig : Y → Z) (front : List Z) (made : List X) (ys : List Y) (i : ℕ) → length ys ≤ i → map view made ≡ front ++ map sig (take i ys) → map view made ≡ front ++ map sig ys
mapped_all view sig front made ys i over so_far = so_far ∙ ap (λ l. front ++ map sig l) (take_all i ys over)

-- all functions are lowered, and none has a fault
pub all_lowered : (x : PlainInput) (fs : List UnitFn) (made : List IrFn) (i : ℕ) → x.functions ≡ map input.fn_view fs → length fs ≤ i
    → map fn_view made ≡ [] ++ map (lowered_of x) (take i fs) → first_fault x i (map input.fn_view (drop i fs)) ≡ first_fault x 0 (map input.fn_view fs) → functions_or x ≡ Ok (map fn_view made)
all_lowered x fs made i functions over so_far faults =
    let none : first_fault x 0 x.functions ≡ None = ap (first_fault x 0) functions ∙ sym faults ∙ ap (λ l. first_fault x i (map input.fn_view l)) (drop_of_length-le fs over) in
    let made_is : map fn_view made ≡ map (lowered_fn x) x.functions = mapped_all fn_view (lowered_of x) [] made fs i over so_far ∙ sym (map_map (lowered_fn x) input.fn_view fs) ∙ ap (map (lowered_fn x)) (sym functions) in
    ap (or_fault (map (lowered_fn x) x.functions)) none ∙ ap Ok (sym made_is)

pub one_faulty : (x : PlainInput) (fs : List UnitFn) (i : ℕ) (d : UnitFn) (failure : Failure) → x.functions ≡ map input.fn_view fs → i < length fs
    → first_fault x i (map input.fn_view (drop i fs)) ≡ first_fault x 0 (map input.fn_view fs) → failure_of (scope_of x (input.fn_view (get_or fs i d))) (input.fn_view (get_or fs i d)) ≡ Some failure
    → functions_or x ≡ Err (record { code = failure.code; function = i; assertion = failure.number })
one_faulty x fs i d failure functions h faults is =
    ap (or_fault (map (lowered_fn x) x.functions)) (ap (first_fault x 0) functions ∙ sym faults ∙ fault_here x i fs i d failure h is)

pub all_callees : (x : input.InputParts) (made : List SignatureOfCode) (es : List ExternalFn) (i : ℕ) → es ≡ x.externals → length es ≤ i → map signature_view made ≡ map sig_of x.functions ++ map external_sig_of (take i es) → map signature_view made ≡ callees_of (input.input_view x)
all_callees x made es i is over so_far =
    so_far
    ∙ ap (λ l. map sig_of x.functions ++ map external_sig_of l) (take_all i es over ∙ is)
    ∙ ap (λ l. l ++ map external_sig_of x.externals) (sym (map_map fn_signature input.fn_view x.functions))
    ∙ ap (λ l. map fn_signature (map input.fn_view x.functions) ++ l) (sym (map_map external_signature input.external_view x.externals))

-- A BODY

first_over : (a b c : Bool) → a ≡ true → (a || b || c) ≡ true
first_over true b c h = refl
first_over false b c h = cc

none_over : (a b c : Bool) → a ≡ false → b ≡ false → c ≡ false → (a || b || c) ≡ false
none_over false false false h i j = refl
none_over true b c h i j = cc
none_over false true c h i j = cc
none_over false false true h i j = cc

pub locals_over : (s : Scope) (f : PlainFn) → s.locals ≡ f.locals → 255 < sum f.locals → is_too_wide s f ≡ true
locals_over s f same over =
    let up = stmts_next_up s f.body (local_slots s) in
    let is : local_slots s ≡ sum f.locals = ap sum same in
    first_over (is_over (lowered_body s f).next) (is_over f.«result») (are_wide_stmts s f.body) (lt-ltb 255 (lowered_body s f).next (omega (arith, up, is, over)))

pub body_narrow : (s : Scope) (f : PlainFn) (given next : ℕ) → given ≡ 0 + f.«result» → given ≤ 255 → next ≡ (lowered_body s f).next → next ≤ 255 → are_wide_stmts s f.body ≡ false → is_too_wide s f ≡ false
body_narrow s f given next given_is low next_is few narrow =
    none_over (is_over (lowered_body s f).next) (is_over f.«result») (are_wide_stmts s f.body) (not_over (lowered_body s f).next (omega (arith, next_is, few))) (not_over f.«result» (omega (arith, given_is, low))) narrow

-- a function that is made has all parts of one without a fault
pub made_fn : (s : Scope) (f : PlainFn) (made : IrFn) → made.symbol ≡ f.symbol → made.external ≡ f.external → made.params ≡ params_width f → made.result ≡ f.«result» → made.slots ≡ (lowered_body s f).next → stmts_view made.body ≡ (lowered_body s f).made → lowered_in s f ≡ fn_view made
made_fn s f made symbol external params gives slots body = rw (symbol, external, params, gives, slots, body) refl

pub whole_fn : (s : Scope) (f : PlainFn) (made : ir.PlainFn) → lowered_in s f ≡ made → first_failure 0 (assertions f.body) ≡ None → is_too_wide s f ≡ false → or_failure (lowered_in s f) (failure_of s f) ≡ Ok made
whole_fn s f made is none narrow = ap (or_failure (lowered_in s f)) (no_failure s f none narrow) ∙ ap Ok is

-- IN THE LOOP

made_parts : (g : ir.PlainFn) (o : Option Failure) (r : ir.PlainFn) → or_failure g o ≡ Ok r → (o ≡ None) × (r ≡ g)
made_parts g None r h = (refl, cc)
made_parts g (Some f) r h = cc

pub turn : (x : PlainInput) (callees : List SignatureOfCode) (fs : List UnitFn) (i : ℕ) (item : UnitFn) (made now : List IrFn) (function : IrFn)
    → map signature_view callees ≡ callees_of x → i < length fs → item ≡ get_or fs i item
    → or_failure (lowered_in (scope_in callees (input.fn_view item)) (input.fn_view item)) (failure_of (scope_in callees (input.fn_view item)) (input.fn_view item)) ≡ Ok (fn_view function)
    → now ≡ made ++ function ∷ [] → map fn_view made ≡ [] ++ map (lowered_of x) (take i fs) → first_fault x i (map input.fn_view (drop i fs)) ≡ first_fault x 0 (map input.fn_view fs)
    → (map fn_view now ≡ [] ++ map (lowered_of x) (take (i + 1) fs)) × (first_fault x (i + 1) (map input.fn_view (drop (i + 1) fs)) ≡ first_fault x 0 (map input.fn_view fs))
turn x callees fs i item made now function known h is whole now_is so_far faults =
    let f = input.fn_view item in
    let same = same_scope x callees f known in
    let parts = made_parts (lowered_in (scope_in callees f) f) (failure_of (scope_in callees f) f) (fn_view function) whole in
    let seen : fn_view function ≡ lowered_of x (get_or fs i item) = parts.1 ∙ ap (λ s. lowered_in s f) same ∙ ap (lowered_of x) is in
    let none : failure_of (scope_of x (input.fn_view (get_or fs i item))) (input.fn_view (get_or fs i item)) ≡ None = ap (λ g. failure_of (scope_of x (input.fn_view g)) (input.fn_view g)) (sym is) ∙ ap (λ s. failure_of s f) (sym same) ∙ parts.0 in (
      ap (map fn_view) now_is ∙ mapped_more fn_view (lowered_of x) [] made fs i item function h so_far seen,
      ap (λ n. first_fault x n (map input.fn_view (drop (i + 1) fs))) (sym (suc-eq-add-one i)) ∙ sym (no_fault_yet x i fs i item h none) ∙ faults,
    )

pub item_is : (x : PlainInput) (callees : List SignatureOfCode) (fs : List UnitFn) (i : ℕ) (item : UnitFn) → map signature_view callees ≡ callees_of x → AllByRecursion (λ f. IsFn (scope_of x f) f) (map input.fn_view fs)
    → i < length fs → item ≡ get_or fs i item → IsFn (scope_in callees (input.fn_view item)) (input.fn_view item)
item_is x callees fs i item known all h is =
    is_in_scope x callees (input.fn_view item) known (subst (λ f. IsFn (scope_of x (input.fn_view f)) (input.fn_view f)) (sym is) (each_is (scope_of x) fs i item all h))

-- A WHOLE UNIT

whole_unit : (gs fs : List ir.PlainFn) (xs es : List (List ℕ)) (o : Option UnitFault) → or_fault gs o ≡ Ok fs → es ≡ xs → or_unit (record { functions = gs; externals = xs }) o ≡ Ok (record { functions = fs; externals = es })
whole_unit gs fs xs es None h is = let same : gs ≡ fs = cc in ap (λ l. Ok (record { functions = l; externals = xs })) same ∙ ap (λ l. Ok (record { functions = fs; externals = l })) (sym is)
whole_unit gs fs xs es (Some fault) h is = cc

pub lowered_whole : (x : PlainInput) (fs : List ir.PlainFn) (es : List (List ℕ)) → functions_or x ≡ Ok fs → es ≡ map (λ e. e.symbol) x.externals → lowered x ≡ Ok (record { functions = fs; externals = es })
lowered_whole x fs es h is = whole_unit (map (lowered_fn x) x.functions) fs (map (λ e. e.symbol) x.externals) es (first_fault x 0 x.functions) h is

faulty_unit : (gs : List ir.PlainFn) (xs : List (List ℕ)) (o : Option UnitFault) (fault : UnitFault) → or_fault gs o ≡ Err fault → or_unit (record { functions = gs; externals = xs }) o ≡ Err fault
faulty_unit gs xs None fault h = cc
faulty_unit gs xs (Some other) fault h = let same : other ≡ fault = cc in ap Err same

pub lowered_faulty : (x : PlainInput) (fault : UnitFault) → functions_or x ≡ Err fault → lowered x ≡ Err fault
lowered_faulty x fault h = faulty_unit (map (lowered_fn x) x.functions) (map (λ e. e.symbol) x.externals) (first_fault x 0 x.functions) fault h

pub symbols_are : (es : List ExternalFn) → map (λ e. e.symbol) es ≡ map (λ e. e.symbol) (map input.external_view es)
symbols_are [] = refl
symbols_are (e ∷ es) = ap (λ l. e.symbol ∷ l) (symbols_are es)
