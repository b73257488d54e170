use Rattle.std.proofs.Common.{◌≡◌, List, Option, map, subst, sym, ap, ◌∙◌}
use Rattle.unit_ir.specs.declared.function.IrFn.{IrFn}
use Rattle.unit_ir.specs.Units.{PlainUnit, fn_view, unit_view, IsUnit, callee_count}
use Rattle.opt_inline.specs.declared.small.Small.{Small}
use Rattle.opt_inline.specs.Inline.{small, inlined_fn, inlined_unit}
use Rattle.opt_inline.specs.Places.{SmallsInRange}
use Rattle.opt_inline.specs.SmallView.{smalls_view}
use Rattle.opt_inline.proofs.InRange.{smalls-in_range, inlined_unit-kept}
use Rattle.opt_inline.proofs.functions.inline_calls.Goals as goal

-- the table is that of the functions
table_is : (fs seen : List IrFn) (ss items : List (Option Small)) → ss ≡ items → smalls_view items ≡ map small (map fn_view seen) → seen ≡ fs → smalls_view ss ≡ map small (map fn_view fs)
table_is fs seen ss items is_items is_small is_seen = ap smalls_view is_items ∙ is_small ∙ ap (λ l. map small (map fn_view l)) is_seen

pub inlined_fns-requires : goal.inlined_fns-requires
inlined_fns-requires c =
    let parts = c.into_parts-functions.result in
    let old : PlainUnit = record { functions = map fn_view parts.0; externals = parts.1 } in
    let unit : IsUnit old = subst (λ u. IsUnit (unit_view u)) c.into_parts-functions.ensures.parts c.into_parts-functions.ensures.unit in
    let table = table_is parts.0 c.as_slice.result.now c.as_slice-2.result.now c.in_ok-small.small.items c.as_slice-2.ensures.value c.in_ok-small.ensures c.as_slice.ensures in
    subst SmallsInRange (sym table) (smalls-in_range (callee_count old) (map fn_view parts.0) unit.each)

pub new-requires : goal.new-requires
new-requires c =
    let parts = c.into_parts-functions.result in
    let old : PlainUnit = record { functions = map fn_view parts.0; externals = parts.1 } in
    let kept : IsUnit (inlined_unit old) = inlined_unit-kept old (subst (λ u. IsUnit (unit_view u)) c.into_parts-functions.ensures.parts c.into_parts-functions.ensures.unit) in
    let table = table_is parts.0 c.as_slice.result.now c.as_slice-2.result.now c.in_ok-small.small.items c.as_slice-2.ensures.value c.in_ok-small.ensures c.as_slice.ensures in
    subst (λ fs. IsUnit (record { functions = fs; externals = parts.1 })) (sym (c.in_ok-functions.ensures ∙ ap (λ t. map (inlined_fn t) (map fn_view parts.0)) table)) kept
