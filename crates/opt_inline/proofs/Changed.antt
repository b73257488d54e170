-- Functions in which calls were replaced.
use Rattle.std.proofs.Common.{◌≡◌, List, [], ◌∷◌, Option, map, refl, ap}
use Rattle.unit_ir.specs.declared.function.IrFn.{IrFn}
use Rattle.unit_ir.specs.Units.{PlainFn, fn_view}
use Rattle.opt_inline.specs.Inline.{PlainSmall, inlined_fn}

abbrev pub inlined_view : List (Option PlainSmall) → IrFn → PlainFn
inlined_view t f = inlined_fn t (fn_view f)

pub map-inlined_fn : (t : List (Option PlainSmall)) (fs : List IrFn) → map (inlined_fn t) (map fn_view fs) ≡ map (inlined_view t) fs
map-inlined_fn t [] = refl
map-inlined_fn t (f ∷ fs) = ap (λ l. inlined_view t f ∷ l) (map-inlined_fn t fs)
