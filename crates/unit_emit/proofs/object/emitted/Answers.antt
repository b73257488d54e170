use Rattle.std.proofs.Common.{◌≡◌, ℕ, List, map, ap, subst}
use Rattle.object_format.specs.Object as object
use Rattle.unit_ir.specs.Units.{PlainUnit, UnitParts, IsUnit, unit_view}
use Rattle.unit_emit.specs.Object.{object_fn, first_long}
use Rattle.unit_emit.proofs.Objects.{object_kept, long_ok}
use Rattle.unit_emit.proofs.object.emitted.Goals as goal

kept_as : (u : PlainUnit) (fs : List object.UnlinkedFn) (es : List (List ℕ)) → IsUnit u → map object_fn u.functions ≡ fs → u.externals ≡ es → object.IsUnlinked (record { functions = fs; externals = es })
kept_as u fs es h is_fs is_es =
    subst (λ x. object.IsUnlinked (record { functions = fs; externals = x })) is_es (subst (λ x. object.IsUnlinked (record { functions = x; externals = u.externals })) is_fs (object_kept u h))

pub new-object-requires-clause-distinct : goal.new-object-requires-clause-distinct
new-object-requires-clause-distinct c =
    let u = unit_view c.args.unit in
    let ok = long_ok (map object_fn u.functions) c.in-Ok.functions (first_long 0 u.functions) c.in-Ok.ensures in
    (kept_as u c.in-Ok.functions c.into_parts-externals.result.1 c.into_parts-externals.ensures.unit ok.1 (ap (λ (p : UnitParts). p.externals) c.into_parts-externals.ensures.parts)).distinct

pub new-object-requires-clause-calls : goal.new-object-requires-clause-calls
new-object-requires-clause-calls c =
    let u = unit_view c.args.unit in
    let ok = long_ok (map object_fn u.functions) c.in-Ok.functions (first_long 0 u.functions) c.in-Ok.ensures in
    (kept_as u c.in-Ok.functions c.into_parts-externals.result.1 c.into_parts-externals.ensures.unit ok.1 (ap (λ (p : UnitParts). p.externals) c.into_parts-externals.ensures.parts)).calls
