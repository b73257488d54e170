-- The object of a unit keeps the rules of objects.
use Rattle.std.proofs.Common.{◌≡◌, ℕ, zero, suc, ◌+◌, ◌≤◌, if◌then◌else◌, List, [], ◌∷◌, map, Bool, true, false, ◌||◌, Option, Some, None, Result, Ok, Err, refl, sym, ap, ◌∙◌, subst, arith, inl, inr}
use Rattle.std.specs.Prelude.{nat_lt, IfOk}
use Rattle.std.specs.List.{AllByRecursion}
use Rattle.std.proofs.lemmas.Bool.{cases_Bool, ltb-false, or_parts}
use Rattle.lar_bytes.specs.Answers.{Answers}
use Rattle.lar_bytes.specs.declared.memory.OrMemory.{OrMemory}
use Rattle.object_format.specs.Object as object
use Rattle.object_format.specs.Version.{max_code}
use Rattle.object_format.specs.declared.version.Version.TheVariants.{Two}
use Rattle.unit_input.specs.Inputs as input
use Rattle.unit_input.specs.Widths.{scope_of}
use Rattle.unit_input.specs.Rules.{IsInput}
use Rattle.unit_ir.specs.declared.fault.UnitFault.{UnitFault}
use Rattle.unit_ir.specs.Units.{PlainFn, PlainUnit, IsFn, IsUnit, callee_count}
use Rattle.unit_lower.specs.Assertions.{assertions, first_failure}
use Rattle.unit_lower.specs.Wide.{is_over, are_wide_stmts}
use Rattle.unit_lower.specs.LoweredUnit.{lowered_body, is_too_wide, with_width, failure_of, lowered_fn, named, first_fault, or_unit}
use Rattle.unit_lower.proofs.Places.{low_width}
use Rattle.unit_lower.proofs.Units.{lowered_unit}
use Rattle.unit_opt.specs.Fold.{fold_fn, fold_unit}
use Rattle.opt_dead.specs.Dead.{dead_fn}
use Rattle.opt_dead.proofs.InRange.{dead_unit-kept}
use Rattle.opt_known.specs.Known.{known_fn, known_unit}
use Rattle.opt_known.proofs.InRange.{known_unit-kept}
use Rattle.opt_inline.specs.Inline.{small, inlined_fn, inlined_unit}
use Rattle.opt_inline.proofs.InRange.{inlined_unit-kept}
use Rattle.unit_opt.specs.Optimised.{optimised}
use Rattle.unit_opt.proofs.Kept.{fold_unit-kept}
use Rattle.unit_emit.specs.Code.{bytes}
use Rattle.unit_emit.specs.Object.{code_of, object_fn, first_long}
use Rattle.unit_emit.proofs.Objects.{symbol_kept, code_whole, object_kept}
use Rattle.unit_object.specs.UnitObject.{object_of, bytes_of, IsBytesOf}
use Rattle.unit_object.proofs.Answered.{is_made, spelled_ok}

-- ---- results of at most 255 words

abbrev pub FewWords : List PlainFn → Type 0
FewWords = AllByRecursion (λ f. f.result ≤ 255)

not_wide : (too_wide : Bool) (failure : _) → with_width too_wide failure ≡ None → too_wide ≡ false
not_wide true None h = cc
not_wide false None h = refl
not_wide true (Some f) h = cc
not_wide false (Some f) h = refl

few_words : (x : input.PlainInput) (f : input.PlainFn) → failure_of (scope_of x f) f ≡ None → f.result ≤ 255
few_words x f none =
    let s = scope_of x f in
    let narrow = not_wide (is_too_wide s f) (first_failure 0 (assertions f.body)) none in
    let front = or_parts (is_over (lowered_body s f).next || is_over f.«result») (are_wide_stmts s f.body) narrow in
    low_width f.«result» (or_parts (is_over (lowered_body s f).next) (is_over f.«result») front.0).1

no_failure : (n : ℕ) (failure : _) (later : Option UnitFault) → named n failure later ≡ None → (failure ≡ None) × (later ≡ None)
no_failure n None later h = (refl, h)
no_failure n (Some f) later h = cc

lowered_few : (x : input.PlainInput) (n : ℕ) (fs : List input.PlainFn) → first_fault x n fs ≡ None → FewWords (map (lowered_fn x) fs)
lowered_few x n [] none = tt
lowered_few x n (f ∷ fs) none =
    let parts = no_failure n (failure_of (scope_of x f) f) (first_fault x (suc n) fs) none in
    (few_words x f parts.0, lowered_few x (suc n) fs parts.1)

unit_few : (x : input.PlainInput) (w : PlainUnit) (fault : Option UnitFault) (u : PlainUnit) → (fault ≡ None → FewWords w.functions) → or_unit w fault ≡ Ok u → FewWords u.functions
unit_few x w None u few h = let same : w ≡ u = cc in subst (λ v. FewWords v.functions) same (few refl)
unit_few x w (Some fault) u few h = absurd cc

mapped_few : (g : PlainFn → PlainFn) → ((f : PlainFn) → (g f).«result» ≡ f.«result») → (fs : List PlainFn) → FewWords fs → FewWords (map g fs)
mapped_few g same [] h = tt
mapped_few g same (f ∷ fs) h = (subst (λ (r : ℕ). r ≤ 255) (sym (same f)) h.0, mapped_few g same fs h.1)

-- ---- what the optimiser keeps

optimised_few : (level : ℕ) (u : PlainUnit) → FewWords u.functions → FewWords (optimised level u).functions
optimised_few zero u h = h
optimised_few (suc zero) u h = mapped_few fold_fn (λ f. refl) u.functions h
optimised_few (suc (suc n)) u h =
    let a = fold_unit u in
    let b = inlined_unit a in
    let c = fold_unit b in
    let d = known_unit c in
    let e = fold_unit d in
    let folded = mapped_few fold_fn (λ f. refl) u.functions h in
    let inlined = mapped_few (inlined_fn (map small a.functions)) (λ f. refl) a.functions folded in
    let again = mapped_few fold_fn (λ f. refl) b.functions inlined in
    let known = mapped_few known_fn (λ f. refl) c.functions again in
    mapped_few dead_fn (λ f. refl) e.functions (mapped_few fold_fn (λ f. refl) d.functions known)

optimised_unit : (level : ℕ) (u : PlainUnit) → IsUnit u → IsUnit (optimised level u)
optimised_unit zero u h = h
optimised_unit (suc zero) u h = fold_unit-kept u h
optimised_unit (suc (suc n)) u h =
    let a = fold_unit u in
    let b = inlined_unit a in
    let c = fold_unit b in
    let d = known_unit c in
    dead_unit-kept (fold_unit d) (fold_unit-kept d (known_unit-kept c (fold_unit-kept b (inlined_unit-kept a (fold_unit-kept u h)))))

-- ---- each function of the object

short_first : (code n : ℕ) (later : Option ℕ) → (if nat_lt max_code code then Some n else later) ≡ None → (code ≤ max_code) × (later ≡ None)
short_first code n later h =
    elim (cases_Bool (nat_lt max_code code)) [
      | inl long ↦ let some : Some n ≡ None = sym (ap (λ b. if b then Some n else later) long) ∙ h in absurd cc
      | inr short ↦ (ltb-false max_code code short, sym (ap (λ b. if b then Some n else later) short) ∙ h)
    ]

each_fn : (k n : ℕ) (fs : List PlainFn) → AllByRecursion (IsFn k) fs → FewWords fs → first_long n fs ≡ None → AllByRecursion object.IsUnlinkedFn (map object_fn fs)
each_fn k n [] ok few short = tt
each_fn k n (f ∷ fs) ok few short =
    let parts = short_first (bytes (code_of f)) n (first_long (n + 1) fs) short in
    let slots = ok.0.slots in
    let params = ok.0.params in
    let words = few.0 in (
      record {
        symbol = symbol_kept f.symbol ok.0.symbol;
        body = record { params = omega (arith, slots, params); «result» = omega (arith, words); slots = omega (arith, slots); short = parts.0; whole = code_whole k f ok.0 };
      },
      each_fn k (n + 1) fs ok.1 few.1 parts.1,
    )

-- ---- the object

pub object_of-keeps : (x : input.PlainInput) (o : object.Unlinked) → IsInput x → object_of x ≡ Ok o → object.IsObject o
object_of-keeps x o ok h =
    let made = is_made x o h in
    let u = optimised x.level made.unit in
    let unit = optimised_unit x.level made.unit (lowered_unit x made.unit ok made.lowered) in
    let few = optimised_few x.level made.unit (unit_few x (record { functions = map (lowered_fn x) x.functions; externals = map (λ e. e.symbol) x.externals }) (first_fault x 0 x.functions) made.unit (lowered_few x 0 x.functions) made.lowered) in
    subst object.IsObject made.object (record { unlinked = object_kept u unit; each = each_fn (callee_count u) 0 u.functions unit.each few made.short })

fits : (fs : List object.UnlinkedFn) → AllByRecursion object.IsUnlinkedFn fs → object.ObjectFitsVersion Two fs
fits [] h = tt
fits (f ∷ fs) h = (h.0.body.short, fits fs h.1)

-- its spelling is read as it
pub object_of-spells : (x : input.PlainInput) (o : object.Unlinked) → IsInput x → object_of x ≡ Ok o → object.SpellsObject (object.object_spelling o) o
object_of-spells x o ok h =
    let keeps = object_of-keeps x o ok h in
    record { version = Two; spells = record { object = keeps; fits = fits o.functions keeps.each; spelled = refl } }

pub bytes_of-read : (x : input.PlainInput) (r : Result (List ℕ) (OrMemory UnitFault)) → IsInput x → Answers (λ b. b) r (bytes_of x) → IfOk r (IsBytesOf x)
bytes_of-read x (Ok bytes) ok h =
    let made = spelled_ok (object_of x) bytes h in
    record { object = made.0; made = made.1; spells = subst (λ b. object.SpellsObject b made.0) (sym made.2) (object_of-spells x made.0 ok made.1) }
bytes_of-read x (Err e) ok h = tt
