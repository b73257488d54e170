-- Functions whose bodies were walked.
use Rattle.std.proofs.Common.{◌≡◌, List, [], ◌∷◌, map, refl, ap}
use Rattle.unit_ir.specs.declared.function.IrFn.{IrFn}
use Rattle.unit_ir.specs.Units.{PlainFn, fn_view}
use Rattle.opt_known.specs.Known.{known_fn}

abbrev pub known_view : IrFn → PlainFn
known_view f = known_fn (fn_view f)

pub map-known_fn : (fs : List IrFn) → map known_fn (map fn_view fs) ≡ map known_view fs
map-known_fn [] = refl
map-known_fn (f ∷ fs) = ap (λ l. known_view f ∷ l) (map-known_fn fs)
