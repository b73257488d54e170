-- The first fault of code, and what code without a fault is.
use Rattle.std.proofs.Common.{inl, inr, ◌≡◌, ℕ, zero, suc, ◌+◌, ◌<◌, ◌≤◌, List, [], ◌∷◌, length, drop, Option, Some, None, refl, sym, ap, ◌∙◌, ◌++◌, take, Bool, true, false, not, ◌&&◌, ltb, cond, arith, subst}
use Rattle.std.proofs.lemmas.Bool.{lt-ltb, ltb-true, ltb-false}
use Rattle.std.proofs.lemmas.List.{length-take, take-append-drop}
use Rattle.std.specs.List.{flat_map, AllByRecursion}
use Rattle.object_format.specs.Opcode.{row, opcode_of}
use Rattle.object_format.specs.Code.{Instruction, Piece, bytes_of, size_of, spelled, is_call, callee_of, IsInstruction, CallIsBelow, IsLinkedInstruction, IsMadeOf, IsWhole, IsLinkedCode, operand_of, begun_by, pieces_after, pieces_from, located}
use Rattle.object_format.specs.Splitting.{Splits, BeginsNone}
use Rattle.object_format.specs.declared.opcode.Opcode.{Opcode}
use Rattle.object_format.specs.declared.opcode.Opcode.TheVariants.{Call}
use Rattle.object_format.specs.declared.fault.BadFile.{BadFile}
use Rattle.object_format.specs.declared.fault.What.TheVariants as what
use Rattle.object_format.specs.Reading.{code_fault, pieces_fault, piece_fault, call_fault, or_later}
use Rattle.object_format.proofs.Opcodes.{number-opcode_of}
use Rattle.object_format.proofs.CodeLemmas.{made-append, made-instruction, made-none, all-more}
use Rattle.object_format.proofs.Pieces.{pieces_from-instruction, pieces_from-whole}

-- the first fault of code whose first bytes belong to the instruction before
abbrev pub code_fault_after : Option ℕ → ℕ → ℕ → List ℕ → Option BadFile
code_fault_after count at operand code = pieces_fault count (pieces_after operand at code)

-- ---- from one instruction to the next

pub code_fault-split : (count : Option ℕ) (at : ℕ) (code : List ℕ) (i : Instruction) (left : List ℕ) → Splits code i left
    → code_fault count at code ≡ or_later (call_fault count at i) (code_fault count (at + size_of i) left)
code_fault-split count at code i left h = ap (code_fault count at) h.joined ∙ ap (pieces_fault count) (pieces_from-instruction at i left h.whole)

-- an instruction without fault is left behind
pub code_fault-next : (count : Option ℕ) (at : ℕ) (code : List ℕ) (i : Instruction) (left : List ℕ) (all : Option BadFile) → Splits code i left → None ≡ call_fault count at i
    → code_fault count at code ≡ all → code_fault count (at + size_of i) left ≡ all
code_fault-next count at code i left all h none is =
    let here = code_fault-split count at code i left h in
    let past : or_later (call_fault count at i) (code_fault count (at + size_of i) left) ≡ code_fault count (at + size_of i) left = rw (sym none) refl in
    sym past ∙ sym here ∙ is

-- an instruction with a fault is the first fault
pub code_fault-here : (count : Option ℕ) (at : ℕ) (code : List ℕ) (i : Instruction) (left : List ℕ) (f : BadFile) (all : Option BadFile) → Splits code i left → Some f ≡ call_fault count at i
    → code_fault count at code ≡ all → Some f ≡ all
code_fault-here count at code i left f all h some is =
    let here = code_fault-split count at code i left h in
    let first : or_later (call_fault count at i) (code_fault count (at + size_of i) left) ≡ Some f = rw (sym some) refl in
    sym first ∙ sym here ∙ is

-- so is a byte at which no instruction stands
pub code_fault-none : (count : Option ℕ) (at : ℕ) (code : List ℕ) (all : Option BadFile) → 0 < length code → BeginsNone code → code_fault count at code ≡ all
    → Some (record { at = at; what = what.Code }) ≡ all
code_fault-none count at [] all some none is = absurd (omega arith)
code_fault-none count at (b ∷ bs) all some none is =
    let here : code_fault count at (b ∷ bs) ≡ Some (record { at = at; what = what.Code }) = rw none refl in
    sym here ∙ is

-- what is left after an instruction is shorter by it
pub length-split : (code : List ℕ) (i : Instruction) (left : List ℕ) → Splits code i left → length code ≡ size_of i + length left
length-split code i left h = ap length h.joined ∙ omega (arith, h.whole, length-joined i.operand left)
  where
    length-joined : (xs ys : List ℕ) → length (xs ++ ys) ≡ length xs + length ys
    length-joined [] ys = omega arith
    length-joined (x ∷ xs) ys = omega (arith, length-joined xs ys)

-- ---- code without a fault is made of instructions that are allowed

-- a call's number is below the count, where that is known
abbrev pub Allows : Option ℕ → Instruction → Type 0
Allows None i = Unit {0}
Allows (Some count) i = CallIsBelow count i

abbrev pub IsAllowed : Option ℕ → Instruction → Type 0
IsAllowed count i = IsInstruction i × Allows count i

pub or_later-none : (a b : Option BadFile) → or_later a b ≡ None → (a ≡ None) × (b ≡ None)
or_later-none (Some f) b e = absurd cc
or_later-none None b e = (refl, e)

pub is_call-true : (o : Opcode) → is_call o ≡ true → o ≡ Call
is_call-true Call e = refl
is_call-true o e = absurd cc

test_passed : (call below : Bool) (f : BadFile) → cond (call && not below) (Some f) None ≡ None → call ≡ true → below ≡ true
test_passed true true f e h = refl
test_passed true false f e h = absurd cc
test_passed false below f e h = absurd cc

passed_test : (call below : Bool) (f : BadFile) → (call ≡ true → below ≡ true) → cond (call && not below) (Some f) None ≡ None
passed_test true true f h = refl
passed_test true false f h = absurd (let bad = h refl in cc)
passed_test false below f h = refl

pub allowed-call_fault : (count : Option ℕ) (at : ℕ) (i : Instruction) → call_fault count at i ≡ None → Allows count i
allowed-call_fault None at i e = tt
allowed-call_fault (Some count) at i e = λ (call : i.opcode ≡ Call). ltb-true (callee_of i) count (test_passed (is_call i.opcode) (ltb (callee_of i) count) _ e (ap is_call call))

call_fault-allowed : (count : Option ℕ) (at : ℕ) (i : Instruction) → Allows count i → call_fault count at i ≡ None
call_fault-allowed None at i h = refl
call_fault-allowed (Some count) at i h = passed_test (is_call i.opcode) (ltb (callee_of i) count) _ (λ call. lt-ltb (callee_of i) count (h (is_call-true i.opcode call)))

pub fine_parts : (count : Option ℕ) (at : ℕ) (short : Bool) (i : Instruction) → piece_fault count at (cond short None (Some i)) ≡ None → (short ≡ false) × (call_fault count at i ≡ None)
fine_parts count at true i e = absurd cc
fine_parts count at false i e = (refl, e)

-- an instruction without fault, before allowed code
made_first : (count : Option ℕ) (at b : ℕ) (o : Opcode) (bs : List ℕ) → opcode_of b ≡ Some o → piece_fault count at (begun_by (Some o) bs) ≡ None
    → ((row o).operand ≤ length bs → IsMadeOf (IsAllowed count) (drop (row o).operand bs)) → IsMadeOf (IsAllowed count) (b ∷ bs)
made_first count at b o bs is fine more =
    let n = (row o).operand in
    let i : Instruction = record { opcode = o; operand = take n bs } in
    let parts = fine_parts count at (ltb (length bs) n) i fine in
    let long : n ≤ length bs = ltb-false _ _ parts.0 in
    let whole : IsInstruction i = omega (arith, length-take n bs) in
    let first : IsMadeOf (IsAllowed count) ((row o).number ∷ take n bs) = made-instruction (IsAllowed count) i (whole, allowed-call_fault count at i parts.1) in
    let all : IsMadeOf (IsAllowed count) ((row o).number ∷ (take n bs ++ drop n bs)) = made-append (IsAllowed count) ((row o).number ∷ take n bs) (drop n bs) first (more long) in
    let same : (row o).number ∷ (take n bs ++ drop n bs) ≡ b ∷ bs = ap (λ (k : ℕ). k ∷ (take n bs ++ drop n bs)) (number-opcode_of b o is) ∙ ap (λ (xs : List ℕ). b ∷ xs) (take-append-drop n bs) in
    subst (IsMadeOf (IsAllowed count)) same all

made_here : (count : Option ℕ) (at b : ℕ) (o : Option Opcode) (bs : List ℕ) → opcode_of b ≡ o → piece_fault count at (begun_by o bs) ≡ None
    → (operand_of o ≤ length bs → IsMadeOf (IsAllowed count) (drop (operand_of o) bs)) → IsMadeOf (IsAllowed count) (b ∷ bs)
made_here count at b None bs is fine more = absurd cc
made_here count at b (Some o) bs is fine more = made_first count at b o bs is fine more

made_after : (count : Option ℕ) (k at : ℕ) (bytes : List ℕ) → pieces_fault count (pieces_after k at bytes) ≡ None → k ≤ length bytes → IsMadeOf (IsAllowed count) (drop k bytes)
made_after count zero at [] e h = made-none (IsAllowed count)
made_after count (suc k) at [] e h = absurd (omega arith)
made_after count (suc k) at (b ∷ bs) e h = made_after count k (at + 1) bs e (omega arith)
made_after count zero at (b ∷ bs) e h =
    let parts = or_later-none _ _ e in
    made_here count at b (opcode_of b) bs refl parts.0 (λ long. made_after count (operand_of (opcode_of b)) (at + 1) bs parts.1 long)

pub made-code_fault : (count : Option ℕ) (at : ℕ) (code : List ℕ) → code_fault count at code ≡ None → IsMadeOf (IsAllowed count) code
made-code_fault count at code e = made_after count 0 at code e (omega arith)

pub whole-made : (count : Option ℕ) (code : List ℕ) → IsMadeOf (IsAllowed count) code → IsWhole code
whole-made count code h = record { parts = h.parts; spelled = h.spelled; good = all-more (IsAllowed count) IsInstruction (λ i p. p.0) h.parts h.good }

pub made-whole : (code : List ℕ) → IsWhole code → IsMadeOf (IsAllowed None) code
made-whole code h = record { parts = h.parts; spelled = h.spelled; good = all-more IsInstruction (IsAllowed None) (λ i p. (p, tt)) h.parts h.good }

pub linked-code_fault : (count at : ℕ) (code : List ℕ) → code_fault (Some count) at code ≡ None → IsLinkedCode count code
linked-code_fault count at code e = made-code_fault (Some count) at code e

-- ---- and such code has no fault

parts_fault : (count : Option ℕ) (at : ℕ) (parts : List Instruction) → AllByRecursion (IsAllowed count) parts → pieces_fault count (located at parts) ≡ None
parts_fault count at [] h = refl
parts_fault count at (i ∷ is) h = rw (call_fault-allowed count at i h.0.1) (parts_fault count (at + size_of i) is h.1)

pub code_fault-made : (count : Option ℕ) (at : ℕ) (code : List ℕ) → IsMadeOf (IsAllowed count) code → code_fault count at code ≡ None
code_fault-made count at code h =
    let whole = all-more (IsAllowed count) IsInstruction (λ i p. p.0) h.parts h.good in
    ap (code_fault count at) (sym h.spelled) ∙ ap (pieces_fault count) (pieces_from-whole at h.parts whole) ∙ parts_fault count at h.parts h.good

pub code_fault-linked : (count at : ℕ) (code : List ℕ) → IsLinkedCode count code → code_fault (Some count) at code ≡ None
code_fault-linked count at code h = code_fault-made (Some count) at code h

-- code that is tested
pub linked_tested : (count : ℕ) (code : List ℕ) → code_fault (Some count) 0 code ≡ None → IsLinkedCode count code
linked_tested count code e = linked-code_fault count 0 code e

-- ---- whole code, from an instruction to the next

pub whole-split : (code : List ℕ) (i : Instruction) (left : List ℕ) → IsWhole code → Splits code i left → IsWhole left
whole-split code i left h split =
    let none = sym (code_fault-split None 0 code i left split) ∙ code_fault-made None 0 code (made-whole code h) in
    whole-made None left (made-code_fault None (0 + size_of i) left (or_later-none (call_fault None 0 i) _ none).1)

some_is_none : (f : BadFile) → Some f ≡ None → ⊥
some_is_none f e = cc

-- whole code ends where no instruction begins
pub whole-none : (code : List ℕ) → IsWhole code → BeginsNone code → code ≡ []
whole-none [] h none = refl
whole-none (b ∷ bs) h none = absurd (some_is_none _ (code_fault-none None 0 (b ∷ bs) None (omega arith) none (code_fault-made None 0 (b ∷ bs) (made-whole (b ∷ bs) h))))
