use Rattle.std.proofs.Common.{◌≡◌, ◌+◌, ◌<◌, ◌^◌, ℕ, List, length, sym, ap, subst, ◌∙◌, arith}
use Rattle.std.specs.List.{flat_map, AllByRecursion, IsDistinct}
use Rattle.std.specs.Str.{bytes_eq}
use Rattle.object_format.specs.Object.{Unlinked, UnlinkedFn, IsSymbol, callees_of, unlinked_spelling}
use Rattle.object_format.specs.ObjectReading.{call_fault_in}
use Rattle.object_format.proofs.CallFaults.{linked-call_fault_in}
use Rattle.object_format.proofs.Objects.{parts_take, parts_length}
use Rattle.object_format.proofs.object_reading.object_of.Goals as goal

pub call_fault_of-requires : goal.call_fault_of-requires
call_fault_of-requires c =
    let parts = (parts_take _ _ _ (λ i. omega (arith, c.type_inv.bytes i)) c.in_ok-version.ensures).0 in
    let within = parts_length _ _ _ _ parts in
    let same : c.as_slice.result.now ≡ c.in_ok-version.draft.functions = c.as_slice.ensures ∙ ap (λ (o : Unlinked). o.functions) c.into_parts-functions.ensures in
    subst (λ (fs : List UnlinkedFn). 10 + length (flat_map (unlinked_spelling c.in_ok-version.version) fs) < 2 ^ 64) (sym same) (omega (arith, within))

pub new-requires-clause-functions : goal.new-requires-clause-functions
new-requires-clause-functions c =
    let parts = (parts_take _ _ _ (λ i. omega (arith, c.type_inv.bytes i)) c.in_ok-version.ensures).0 in
    subst (λ (o : Unlinked). length o.functions < 2 ^ 32) (sym c.into_parts-functions.ensures) parts.functions

pub new-requires-clause-externals : goal.new-requires-clause-externals
new-requires-clause-externals c =
    let parts = (parts_take _ _ _ (λ i. omega (arith, c.type_inv.bytes i)) c.in_ok-version.ensures).0 in
    subst (λ (o : Unlinked). length o.externals < 2 ^ 32) (sym c.into_parts-functions.ensures) parts.externals

pub new-requires-clause-symbols : goal.new-requires-clause-symbols
new-requires-clause-symbols c =
    let parts = (parts_take _ _ _ (λ i. omega (arith, c.type_inv.bytes i)) c.in_ok-version.ensures).0 in
    subst (λ (o : Unlinked). AllByRecursion IsSymbol o.externals) (sym c.into_parts-functions.ensures) parts.symbols

pub new-requires-clause-distinct : goal.new-requires-clause-distinct
new-requires-clause-distinct c =
    let parts = (parts_take _ _ _ (λ i. omega (arith, c.type_inv.bytes i)) c.in_ok-version.ensures).0 in
    subst (λ (o : Unlinked). IsDistinct bytes_eq (callees_of o)) (sym c.into_parts-functions.ensures) parts.distinct

pub new-requires-clause-calls : goal.new-requires-clause-calls
new-requires-clause-calls c =
    let n = length c.into_parts-functions.result.0 + length c.into_parts-functions.result.1 in
    let counted : c.len.result + c.len-2.result ≡ n = omega (arith, c.len.ensures, c.len-2.ensures) in
    let same : call_fault_in c.in_ok-version.version n 10 c.into_parts-functions.result.0 ≡ call_fault_in c.in_ok-version.version (c.len.result + c.len-2.result) 10 c.as_slice.result.now =
    ap (λ (k : ℕ). call_fault_in c.in_ok-version.version k 10 c.into_parts-functions.result.0) (sym counted) ∙ ap (call_fault_in c.in_ok-version.version (c.len.result + c.len-2.result) 10) (sym c.as_slice.ensures) in
    linked-call_fault_in c.in_ok-version.version n 10 c.into_parts-functions.result.0 (same ∙ sym c.call_fault_of.ensures ∙ c.in_default.is)
