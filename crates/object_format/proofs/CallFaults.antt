-- Calls without a callee, function by function.
use Rattle.std.proofs.Common.{◌≡◌, ℕ, ◌+◌, List, [], ◌∷◌, length, None, refl, arith}
use Rattle.std.specs.List.{flat_map, AllByRecursion}
use Rattle.std.proofs.lemmas.List.{length-append}
use Rattle.object_format.specs.Code.{IsLinkedCode}
use Rattle.object_format.specs.Object.{UnlinkedFn, unlinked_spelling}
use Rattle.object_format.specs.Version.{code_offset}
use Rattle.object_format.specs.declared.version.Version.{Version}
use Rattle.object_format.specs.declared.version.Version.TheVariants.{One, Two}
use Rattle.object_format.specs.ObjectReading.{code_place, call_fault_in}
use Rattle.object_format.proofs.CodeFaults.{or_later-none, linked-code_fault, code_fault-linked}

-- where functions end
abbrev pub end_place : Version → ℕ → List UnlinkedFn → ℕ
end_place version at fs = at + length (flat_map (unlinked_spelling version) fs)

pub length-unlinked_spelling : (version : Version) (f : UnlinkedFn) → length (unlinked_spelling version f) ≡ 4 + length f.symbol + 1 + code_offset version + length f.code
length-unlinked_spelling One f = simp length-append (omega arith)
length-unlinked_spelling Two f = simp length-append (omega arith)

-- the end, seen from behind the first function
pub end_place-next : (version : Version) (at : ℕ) (f : UnlinkedFn) (fs : List UnlinkedFn) → end_place version at (f ∷ fs) ≡ end_place version (code_place version at f + length f.code) fs
end_place-next version at f fs = omega (arith, length-append (unlinked_spelling version f) (flat_map (unlinked_spelling version) fs), length-unlinked_spelling version f)

-- no call without a callee
pub linked-call_fault_in : (version : Version) (callees at : ℕ) (fs : List UnlinkedFn) → call_fault_in version callees at fs ≡ None → AllByRecursion (λ f. IsLinkedCode callees f.code) fs
linked-call_fault_in version callees at [] h = tt
linked-call_fault_in version callees at (f ∷ fs) h =
    let parts = or_later-none _ _ h in
    (linked-code_fault callees (code_place version at f) f.code parts.0, linked-call_fault_in version callees (code_place version at f + length f.code) fs parts.1)

pub call_fault_in-linked : (version : Version) (callees at : ℕ) (fs : List UnlinkedFn) → AllByRecursion (λ f. IsLinkedCode callees f.code) fs → call_fault_in version callees at fs ≡ None
call_fault_in-linked version callees at [] h = refl
call_fault_in-linked version callees at (f ∷ fs) h = rw (code_fault-linked callees (code_place version at f) f.code h.0) (call_fault_in-linked version callees (code_place version at f + length f.code) fs h.1)
