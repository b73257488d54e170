use Rattle.std.proofs.Common.{map, subst, sym}
use Rattle.unit_ir.specs.Units.{PlainUnit, fn_view, unit_view, IsUnit}
use Rattle.opt_dead.specs.Dead.{dead_unit}
use Rattle.opt_dead.proofs.InRange.{dead_unit-kept}
use Rattle.opt_dead.proofs.functions.drop_dead.Goals as goal

pub new-requires : goal.new-requires
new-requires c =
    let parts = c.into_parts-functions.result in
    let old : PlainUnit = record { functions = map fn_view parts.0; externals = parts.1 } in
    let kept : IsUnit (dead_unit old) = dead_unit-kept old (subst (λ u. IsUnit (unit_view u)) c.into_parts-functions.ensures.parts c.into_parts-functions.ensures.unit) in
    subst (λ fs. IsUnit (record { functions = fs; externals = parts.1 })) (sym c.in_ok-functions.ensures) kept
