-- What a linker sees of a unit's object stands in the unit's input.
use Rattle.std.proofs.Common.{◌≡◌, ℕ, zero, suc, List, [], ◌∷◌, map, Option, Some, None, Ok, refl, sym, ap, ◌∙◌}
use Rattle.object_format.specs.Object.{Unlinked, UnlinkedFn}
use Rattle.unit_input.specs.Inputs as input
use Rattle.unit_ir.specs.declared.fault.UnitFault.{UnitFault}
use Rattle.unit_ir.specs.Units.{PlainFn, PlainUnit}
use Rattle.unit_lower.specs.LoweredUnit.{lowered_fn, first_fault, or_unit, lowered}
use Rattle.unit_opt.specs.Fold.{fold_fn, fold_unit}
use Rattle.opt_dead.specs.Dead.{dead_fn}
use Rattle.opt_known.specs.Known.{known_fn, known_unit}
use Rattle.opt_inline.specs.Inline.{small, inlined_fn, inlined_unit}
use Rattle.unit_opt.specs.Optimised.{optimised}
use Rattle.unit_emit.specs.Object.{object_fn}
use Rattle.unit_object.specs.Interface.{NamedFn, Interface, input_interface, object_interface}
use Rattle.unit_object.specs.UnitObject.{object_of}
use Rattle.unit_object.proofs.Answered.{is_made}

-- ---- the interface, from stage to stage

abbrev pub input_name : input.PlainFn → NamedFn
input_name f = record { symbol = f.symbol; external = f.external }

abbrev pub unit_name : PlainFn → NamedFn
unit_name f = record { symbol = f.symbol; external = f.external }

abbrev object_name : UnlinkedFn → NamedFn
object_name f = record { symbol = f.symbol; external = f.external }

abbrev pub unit_interface : PlainUnit → Interface
unit_interface u = record { functions = map unit_name u.functions; externals = u.externals }

lowered_names : (x : input.PlainInput) (fs : List input.PlainFn) → map unit_name (map (lowered_fn x) fs) ≡ map input_name fs
lowered_names x [] = refl
lowered_names x (f ∷ fs) = ap (λ l. input_name f ∷ l) (lowered_names x fs)

mapped_names : (g : PlainFn → PlainFn) → ((f : PlainFn) → unit_name (g f) ≡ unit_name f) → (fs : List PlainFn) → map unit_name (map g fs) ≡ map unit_name fs
mapped_names g same [] = refl
mapped_names g same (f ∷ fs) = ap (λ n. n ∷ map unit_name (map g fs)) (same f) ∙ ap (λ l. unit_name f ∷ l) (mapped_names g same fs)

emitted_names : (fs : List PlainFn) → map object_name (map object_fn fs) ≡ map unit_name fs
emitted_names [] = refl
emitted_names (f ∷ fs) = ap (λ l. unit_name f ∷ l) (emitted_names fs)

or_unit_ok : (w u : PlainUnit) (fault : Option UnitFault) → or_unit w fault ≡ Ok u → w ≡ u
or_unit_ok w u None h = cc
or_unit_ok w u (Some fault) h = absurd cc

pub lowered_shown : (x : input.PlainInput) (u : PlainUnit) → lowered x ≡ Ok u → unit_interface u ≡ input_interface x
lowered_shown x u h =
    let externals = map (λ e. e.symbol) x.externals in
    ap unit_interface (sym (or_unit_ok (record { functions = map (lowered_fn x) x.functions; externals = externals }) u (first_fault x 0 x.functions) h))
    ∙ ap (λ fs. record { functions = fs; externals = externals }) (lowered_names x x.functions)

-- the optimiser renames nothing
pub optimised_shown : (level : ℕ) (u : PlainUnit) → unit_interface (optimised level u) ≡ unit_interface u
optimised_shown zero u = refl
optimised_shown (suc zero) u = ap (λ fs. record { functions = fs; externals = u.externals }) (mapped_names fold_fn (λ f. refl) u.functions)
optimised_shown (suc (suc n)) u =
    let a = fold_unit u in
    let b = inlined_unit a in
    let c = fold_unit b in
    let d = known_unit c in
    let e = fold_unit d in
    ap (λ fs. record { functions = fs; externals = u.externals })
    (mapped_names dead_fn (λ f. refl) e.functions ∙ mapped_names fold_fn (λ f. refl) d.functions ∙ mapped_names known_fn (λ f. refl) c.functions
    ∙ mapped_names fold_fn (λ f. refl) b.functions ∙ mapped_names (inlined_fn (map small a.functions)) (λ f. refl) a.functions ∙ mapped_names fold_fn (λ f. refl) u.functions)

pub object_of-shown : (x : input.PlainInput) (o : Unlinked) → object_of x ≡ Ok o → object_interface o ≡ input_interface x
object_of-shown x o h =
    let made = is_made x o h in
    let u = optimised x.level made.unit in
    ap object_interface (sym made.object)
    ∙ ap (λ fs. record { functions = fs; externals = u.externals }) (emitted_names u.functions)
    ∙ optimised_shown x.level made.unit
    ∙ lowered_shown x made.unit made.lowered
