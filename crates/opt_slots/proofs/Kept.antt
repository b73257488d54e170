-- A unit whose functions change one by one and keep their symbols keeps what a unit keeps.
use Rattle.std.proofs.Common.{◌≡◌, ℕ, ◌+◌, ◌<◌, ◌^◌, List, [], ◌∷◌, ◌++◌, map, length, refl, sym, ap, ◌∙◌, subst}
use Rattle.std.specs.List.{AllByRecursion, IsDistinct}
use Rattle.std.specs.Str.{bytes_eq}
use Rattle.std.proofs.lemmas.List.{length-map}
use Rattle.unit_ir.specs.Units.{PlainFn, PlainUnit, IsFn, IsUnit, callee_count}

symbols_kept : (pass : PlainFn → PlainFn) → ((f : PlainFn) → (pass f).symbol ≡ f.symbol) → (fs : List PlainFn) → map (λ f. f.symbol) (map pass fs) ≡ map (λ f. f.symbol) fs
symbols_kept pass same [] = refl
symbols_kept pass same (f ∷ fs) = ap (λ s. s ∷ map (λ g. g.symbol) (map pass fs)) (same f) ∙ ap (λ l. f.symbol ∷ l) (symbols_kept pass same fs)

each_kept : (pass : PlainFn → PlainFn) (k : ℕ) → ((f : PlainFn) → IsFn k f → IsFn k (pass f)) → (fs : List PlainFn) → AllByRecursion (IsFn k) fs → AllByRecursion (IsFn k) (map pass fs)
each_kept pass k keeps [] h = h
each_kept pass k keeps (f ∷ fs) h = (keeps f h.0, each_kept pass k keeps fs h.1)

pub IsUnit-map : (pass : PlainFn → PlainFn) → ((f : PlainFn) → (pass f).symbol ≡ f.symbol) → ((k : ℕ) (f : PlainFn) → IsFn k f → IsFn k (pass f))
    → (u : PlainUnit) → IsUnit u → IsUnit (record u { functions = map pass u.functions })
IsUnit-map pass same keeps u h =
    let count : length u.functions ≡ length (map pass u.functions) = sym (length-map u.functions pass) in
    record {
      functions = subst (λ n. n < 2 ^ 32) count h.functions;
      externals = h.externals;
      symbols = h.symbols;
      distinct = subst (λ l. IsDistinct bytes_eq (l ++ u.externals)) (sym (symbols_kept pass same u.functions)) h.distinct;
      each = subst (λ n. AllByRecursion (IsFn (n + length u.externals)) (map pass u.functions)) count (each_kept pass (callee_count u) (keeps (callee_count u)) u.functions h.each);
    }
