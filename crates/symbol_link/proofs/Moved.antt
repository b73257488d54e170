-- Code that is relocated, instruction by instruction.
use Rattle.std.proofs.Common.{◌≡◌, ℕ, suc, ◌+◌, ◌<◌, ◌≤◌, ◌^◌, List, [], ◌∷◌, ◌++◌, length, Bool, true, false, Some, None, refl, sym, ap, ◌∙◌, subst, append_assoc, arith}
use Rattle.std.proofs.lemmas.List.{length-append, append-nil}
use Rattle.std.proofs.lemmas.Nat.{from_be_bytes-to_be_bytes_4}
use Rattle.std.specs.Int.{w32, from_be_bytes, to_be_bytes}
use Rattle.std.specs.List.{flat_map, AllByRecursion}
use Rattle.std.specs.Prelude.{map}
use Rattle.object_format.specs.Code.{Instruction, bytes_of, size_of, spelled, is_call, instructions, IsInstruction, CallIsBelow, IsLinkedInstruction, IsWhole, IsLinkedCode}
use Rattle.object_format.specs.Opcode.{row}
use Rattle.object_format.specs.Splitting.{Splits, BeginsNone}
use Rattle.object_format.specs.declared.fault.BadFile.{BadFile}
use Rattle.object_format.specs.declared.opcode.Opcode.{Opcode}
use Rattle.object_format.specs.declared.opcode.Opcode.TheVariants.{Call}
use Rattle.object_format.proofs.CodeFaults.{or_later-none, code_fault-split, code_fault-none, code_fault-linked, linked-code_fault, allowed-call_fault, is_call-true}
use Rattle.object_format.proofs.Pieces.{instructions-spelled, instructions-whole}
use Rattle.symbol_link.specs.Relocation.{operand_relocated, instruction_relocated, relocated}

abbrev moved : (ℕ → ℕ) → Instruction → List ℕ
moved place i = bytes_of (instruction_relocated place i)

spelled-map : (f : Instruction → Instruction) (parts : List Instruction) → flat_map bytes_of (map f parts) ≡ flat_map (λ i. bytes_of (f i)) parts
spelled-map f [] = refl
spelled-map f (i ∷ is) = ap (λ (bs : List ℕ). bytes_of (f i) ++ bs) (spelled-map f is)

pub relocated-spelled : (place : ℕ → ℕ) (parts : List Instruction) → AllByRecursion IsInstruction parts → relocated place (flat_map bytes_of parts) ≡ flat_map (moved place) parts
unfolding relocated
relocated-spelled place parts h = ap (λ (is : List Instruction). spelled (map (instruction_relocated place) is)) (instructions-spelled parts h) ∙ spelled-map (instruction_relocated place) parts

-- ---- its length stays

four : (n : ℕ) → length (to_be_bytes w32 n) ≡ 4
four n = refl

-- the operand's bytes are as many as before
length-operand : (place : ℕ → ℕ) (o : Opcode) (call : Bool) → is_call o ≡ call → (operand : List ℕ) → length operand ≡ (row o).operand → length (operand_relocated place call operand) ≡ (row o).operand
length-operand place o true is operand h = four (place (from_be_bytes w32 operand)) ∙ sym (ap (λ (p : Opcode). (row p).operand) (is_call-true o is))
length-operand place o false is operand h = h

all_whole : (reach : ℕ) (parts : List Instruction) → AllByRecursion (IsLinkedInstruction reach) parts → AllByRecursion IsInstruction parts
all_whole reach [] h = tt
all_whole reach (i ∷ is) h = (h.0.0, all_whole reach is h.1)

length-moved : (place : ℕ → ℕ) (parts : List Instruction) → AllByRecursion IsInstruction parts → length (flat_map (moved place) parts) ≡ length (flat_map bytes_of parts)
length-moved place [] h = refl
length-moved place (i ∷ is) h =
    let operand : length (operand_relocated place (is_call i.opcode) i.operand) ≡ length i.operand = length-operand place i.opcode (is_call i.opcode) refl i.operand h.0 ∙ sym h.0 in
    ap suc (length-append (operand_relocated place (is_call i.opcode) i.operand) (flat_map (moved place) is)
    ∙ ap (λ (n : ℕ). n + length (flat_map (moved place) is)) operand
    ∙ ap (λ (n : ℕ). length i.operand + n) (length-moved place is h.1)
    ∙ sym (length-append i.operand (flat_map bytes_of is)))

pub length-relocated : (place : ℕ → ℕ) (reach : ℕ) (code : List ℕ) → IsLinkedCode reach code → length (relocated place code) ≡ length code
length-relocated place reach code h =
    let whole = all_whole reach h.parts h.good in
    ap (λ (bs : List ℕ). length (relocated place bs)) (sym h.spelled) ∙ ap length (relocated-spelled place h.parts whole) ∙ length-moved place h.parts whole ∙ ap length h.spelled

whole_moved : (place : ℕ → ℕ) (parts : List Instruction) → AllByRecursion IsInstruction parts → AllByRecursion IsInstruction (map (instruction_relocated place) parts)
whole_moved place [] h = tt
whole_moved place (i ∷ is) h = (length-operand place i.opcode (is_call i.opcode) refl i.operand h.0, whole_moved place is h.1)

pub whole-relocated : (place : ℕ → ℕ) (reach : ℕ) (code : List ℕ) → IsLinkedCode reach code → IsWhole (relocated place code)
whole-relocated place reach code h =
    let whole = all_whole reach h.parts h.good in
    record {
      parts = map (instruction_relocated place) h.parts;
      spelled = spelled-map (instruction_relocated place) h.parts ∙ sym (relocated-spelled place h.parts whole) ∙ ap (relocated place) h.spelled;
      good = whole_moved place h.parts whole;
    }

-- ---- its calls have places

moved_linked : (place : ℕ → ℕ) (reach count : ℕ) (i : Instruction) → count ≤ 2 ^ 32 → ((k : ℕ) → k < reach → place k < count) → IsLinkedInstruction reach i → IsLinkedInstruction count (instruction_relocated place i)
moved_linked place reach count i fits below h =
    let whole : IsInstruction (instruction_relocated place i) = length-operand place i.opcode (is_call i.opcode) refl i.operand h.0 in
    let called : CallIsBelow count (instruction_relocated place i) = λ (is : i.opcode ≡ Call).
    let number = from_be_bytes w32 i.operand in
    let to : place number < count = below number (h.1 is) in
    let operand : operand_relocated place (is_call i.opcode) i.operand ≡ to_be_bytes w32 (place number) = ap (λ (o : Opcode). operand_relocated place (is_call o) i.operand) is in
    let back : from_be_bytes w32 (operand_relocated place (is_call i.opcode) i.operand) ≡ place number = ap (from_be_bytes w32) operand ∙ from_be_bytes-to_be_bytes_4 (place number) (omega arith) in
    subst (λ (n : ℕ). n < count) (sym back) to in
    (whole, called)

all_moved : (place : ℕ → ℕ) (reach count : ℕ) (parts : List Instruction) → count ≤ 2 ^ 32 → ((k : ℕ) → k < reach → place k < count) → AllByRecursion (IsLinkedInstruction reach) parts → AllByRecursion (IsLinkedInstruction count) (map (instruction_relocated place) parts)
all_moved place reach count [] fits below h = tt
all_moved place reach count (i ∷ is) fits below h = (moved_linked place reach count i fits below h.0, all_moved place reach count is fits below h.1)

-- relocated code is linked code of the image
pub linked-relocated : (place : ℕ → ℕ) (reach count : ℕ) (code : List ℕ) → count ≤ 2 ^ 32 → ((k : ℕ) → k < reach → place k < count) → IsLinkedCode reach code → IsLinkedCode count (relocated place code)
linked-relocated place reach count code fits below h =
    let whole = all_whole reach h.parts h.good in
    record {
      parts = map (instruction_relocated place) h.parts;
      spelled = spelled-map (instruction_relocated place) h.parts ∙ sym (relocated-spelled place h.parts whole) ∙ ap (relocated place) h.spelled;
      good = all_moved place reach count h.parts fits below h.good;
    }

-- ---- its instructions are the relocated ones

pub instructions-relocated : (place : ℕ → ℕ) (code : List ℕ) → IsWhole code → instructions (relocated place code) ≡ map (instruction_relocated place) (instructions code)
unfolding relocated
instructions-relocated place code h =
    let f = instruction_relocated place in
    let own : instructions code ≡ h.parts = instructions-whole code h in
    let moved_parts : relocated place code ≡ spelled (map f h.parts) = ap (λ (is : List Instruction). spelled (map f is)) own in
    ap instructions moved_parts ∙ instructions-spelled (map f h.parts) (whole_moved place h.parts h.good) ∙ ap (map f) (sym own)

-- ---- one instruction after the other

-- what code of an object begins with
pub linked-split : (reach : ℕ) (code : List ℕ) (i : Instruction) (left : List ℕ) → IsLinkedCode reach code → Splits code i left → CallIsBelow reach i × IsLinkedCode reach left
linked-split reach code i left h split =
    let none = sym (code_fault-split (Some reach) 0 code i left split) ∙ code_fault-linked reach 0 code h in
    let parts = or_later-none _ _ none in
    (allowed-call_fault (Some reach) 0 i parts.0, linked-code_fault reach (0 + size_of i) left parts.1)

pub relocated-split : (place : ℕ → ℕ) (reach : ℕ) (code : List ℕ) (i : Instruction) (left : List ℕ) → IsLinkedCode reach left → Splits code i left
    → relocated place code ≡ bytes_of (instruction_relocated place i) ++ relocated place left
relocated-split place reach code i left h split =
    let whole = all_whole reach h.parts h.good in
    let all : code ≡ flat_map bytes_of (i ∷ h.parts) = split.joined ∙ ap (λ (bs : List ℕ). bytes_of i ++ bs) (sym h.spelled) in
    ap (relocated place) all
    ∙ relocated-spelled place (i ∷ h.parts) (split.whole, whole)
    ∙ ap (λ (bs : List ℕ). moved place i ++ bs) (sym (relocated-spelled place h.parts whole) ∙ ap (relocated place) h.spelled)

-- what is put behind what was put before
pub puts_one : (place : ℕ → ℕ) (reach : ℕ) (code : List ℕ) (i : Instruction) (left old new all : List ℕ) → IsLinkedCode reach code → Splits code i left
    → new ≡ old ++ bytes_of (instruction_relocated place i) → old ++ relocated place code ≡ all → new ++ relocated place left ≡ all
puts_one place reach code i left old new all h split put so_far =
    let rest = (linked-split reach code i left h split).1 in
    ap (λ (bs : List ℕ). bs ++ relocated place left) put
    ∙ append_assoc old (moved place i) (relocated place left)
    ∙ ap (λ (bs : List ℕ). old ++ bs) (sym (relocated-split place reach code i left rest split))
    ∙ so_far

some_is_none : (f : BadFile) → Some f ≡ None → ⊥
some_is_none f e = cc

-- nothing is left where no instruction begins
pub puts_all : (place : ℕ → ℕ) (reach : ℕ) (code out all : List ℕ) → IsLinkedCode reach code → BeginsNone code → out ++ relocated place code ≡ all → out ≡ all
unfolding relocated instructions
puts_all place reach [] out all h none so_far = sym (append-nil out) ∙ so_far
puts_all place reach (b ∷ bs) out all h none so_far =
    absurd (some_is_none _ (code_fault-none (Some reach) 0 (b ∷ bs) None (omega arith) none (code_fault-linked reach 0 (b ∷ bs) h)))
