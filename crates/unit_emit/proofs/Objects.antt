-- The object of a unit keeps what an object keeps.
use Rattle.std.proofs.Common.{◌≡◌, ℕ, ◌+◌, ◌<◌, ◌≤◌, ◌^◌, if◌then◌else◌, List, [], ◌∷◌, ◌++◌, map, length, Option, Some, None, Ok, Err, refl, sym, ap, ◌∙◌, subst, append_assoc}
use Rattle.std.specs.List.{AllByRecursion, IsDistinct}
use Rattle.std.specs.Str.{bytes_eq}
use Rattle.std.proofs.lemmas.List.{length-map, append-nil}
use Rattle.std.proofs.lemmas.Bool.{lt-ltb, le-ltb}
use Rattle.lar_bytes.specs.Answers.{Fails}
use Rattle.lar_bytes.specs.declared.memory.OrMemory.{OrMemory}
use Rattle.lar_bytes.specs.declared.memory.OrMemory.TheVariants.{Refused, Memory}
use Rattle.object_format.specs.Code.{Instruction, IsInstruction, IsLinkedInstruction, IsWhole, IsLinkedCode, spelled}
use Rattle.object_format.specs.Object as object
use Rattle.object_format.specs.Version.{max_code}
use Rattle.unit_ir.specs.declared.fault.UnitFault.{UnitFault}
use Rattle.unit_ir.specs.Units.{PlainFn, PlainUnit, IsSymbol, IsFn, IsUnit, callee_count}
use Rattle.unit_emit.specs.Code.{bytes}
use Rattle.unit_emit.specs.Object.{code_of, object_fn, first_long, long_or, emitted_functions, emitted}
use Rattle.unit_emit.proofs.Whole.{function_whole}

pub symbol_kept : (s : List ℕ) → IsSymbol s → object.IsSymbol s
symbol_kept s h = record { some = h.some; short = h.short; signs = h.signs }

instructions_alone : (k : ℕ) (is : List Instruction) → AllByRecursion (IsLinkedInstruction k) is → AllByRecursion IsInstruction is
instructions_alone k [] h = tt
instructions_alone k (i ∷ is) h = (h.0.0, instructions_alone k is h.1)

pub code_linked : (k : ℕ) (f : PlainFn) → IsFn k f → IsLinkedCode k (spelled (code_of f))
code_linked k f h = record { parts = code_of f; spelled = refl; good = function_whole f.slots k f.body f.result h.body }

pub code_whole : (k : ℕ) (f : PlainFn) → IsFn k f → IsWhole (spelled (code_of f))
code_whole k f h = record { parts = code_of f; spelled = refl; good = instructions_alone k (code_of f) (function_whole f.slots k f.body f.result h.body) }

all_linked : (k : ℕ) (fs : List PlainFn) → AllByRecursion (IsFn k) fs → AllByRecursion (λ f. IsLinkedCode k f.code) (map object_fn fs)
all_linked k [] h = tt
all_linked k (f ∷ fs) h = (code_linked k f h.0, all_linked k fs h.1)

symbols_kept : (ss : List (List ℕ)) → AllByRecursion IsSymbol ss → AllByRecursion object.IsSymbol ss
symbols_kept [] h = tt
symbols_kept (s ∷ ss) h = (symbol_kept s h.0, symbols_kept ss h.1)

same_symbols : (fs : List PlainFn) → map (λ f. f.symbol) (map object_fn fs) ≡ map (λ f. f.symbol) fs
same_symbols [] = refl
same_symbols (f ∷ fs) = ap (λ l. f.symbol ∷ l) (same_symbols fs)

abbrev pub object_of : PlainUnit → object.Unlinked
object_of u = record { functions = map object_fn u.functions; externals = u.externals }

pub object_kept : (u : PlainUnit) → IsUnit u → object.IsUnlinked (object_of u)
object_kept u h =
    let count : length u.functions ≡ length (map object_fn u.functions) = sym (length-map u.functions object_fn) in
    record {
      functions = subst (λ n. n < 2 ^ 32) count h.functions;
      externals = h.externals;
      symbols = symbols_kept u.externals h.symbols;
      distinct = subst (λ l. IsDistinct bytes_eq (l ++ u.externals)) (sym (same_symbols u.functions)) h.distinct;
      calls = subst (λ n. AllByRecursion (λ f. IsLinkedCode (n + length u.externals) f.code) (map object_fn u.functions)) count (all_linked (callee_count u) u.functions h.each);
    }

pub long_ok : {A : Type 0} (x y : A) (m : Option ℕ) → long_or x m ≡ Ok y → (m ≡ None) × (x ≡ y)
long_ok x y None e = (refl, cc)
long_ok x y (Some k) e = cc

carried : {A B : Type 0} (x : A) (y : B) (m : Option ℕ) (e : OrMemory UnitFault) → Fails e (long_or x m) → Fails e (long_or y m)
carried x y m Memory h = tt
carried x y None (Refused e) h = cc
carried x y (Some k) (Refused e) h = cc

pub fails_too : (u : PlainUnit) (e : OrMemory UnitFault) → Fails e (emitted_functions u) → Fails e (emitted u)
fails_too u e h = carried (map object_fn u.functions) (object.object_spelling (object_of u)) (first_long 0 u.functions) e h

first_long-here : (n : ℕ) (f : PlainFn) (fs : List PlainFn) → max_code < bytes (code_of f) → first_long n (f ∷ fs) ≡ Some n
first_long-here n f fs long = ap (λ b. if b then Some n else first_long (n + 1) fs) (lt-ltb max_code (bytes (code_of f)) long)

first_long-later : (n : ℕ) (f : PlainFn) (fs : List PlainFn) → bytes (code_of f) ≤ max_code → first_long n (f ∷ fs) ≡ first_long (n + 1) fs
first_long-later n f fs short = ap (λ b. if b then Some n else first_long (n + 1) fs) (le-ltb max_code (bytes (code_of f)) short)

-- the functions before number n are made, and those of left are not
pub record Emitting (u : PlainUnit) (n : ℕ) (left : List PlainFn) (made : List object.UnlinkedFn) : Type 0 where
  pub first : first_long 0 u.functions ≡ first_long n left
  pub so_far : map object_fn u.functions ≡ made ++ map object_fn left
  pub each : AllByRecursion (IsFn (callee_count u)) left

pub emitting_all : (u : PlainUnit) → IsUnit u → Emitting u 0 u.functions []
emitting_all u h = record { first = refl; so_far = refl; each = h.each }

pub emitting_more : (u : PlainUnit) (n : ℕ) (f : PlainFn) (left : List PlainFn) (made now : List object.UnlinkedFn) → Emitting u n (f ∷ left) made → bytes (code_of f) ≤ max_code
    → now ≡ made ++ object_fn f ∷ [] → Emitting u (n + 1) left now
emitting_more u n f left made now e short is_now =
    record {
      first = e.first ∙ first_long-later n f left short;
      so_far = e.so_far ∙ sym (append_assoc made (object_fn f ∷ []) (map object_fn left)) ∙ ap (λ l. l ++ map object_fn left) (sym is_now);
      each = e.each.1;
    }

pub emitting_long : (u : PlainUnit) (n : ℕ) (f : PlainFn) (left : List PlainFn) (made : List object.UnlinkedFn) → Emitting u n (f ∷ left) made → max_code < bytes (code_of f)
    → emitted_functions u ≡ Err (record { code = 33; function = n; assertion = 0 })
emitting_long u n f left made e long = ap (long_or (map object_fn u.functions)) (e.first ∙ first_long-here n f left long)

pub emitting_done : (u : PlainUnit) (n : ℕ) (made : List object.UnlinkedFn) → Emitting u n [] made → emitted_functions u ≡ Ok made
emitting_done u n made e = ap (long_or (map object_fn u.functions)) e.first ∙ ap Ok (e.so_far ∙ append-nil made)
