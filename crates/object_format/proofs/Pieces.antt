-- Code is read back from its instructions' spelling, and an instruction after whole code is the next one.
use Rattle.std.proofs.Common.{◌≡◌, ℕ, zero, suc, ◌+◌, ◌≤◌, List, [], ◌∷◌, ◌++◌, length, take, drop, Some, false, ltb, refl, sym, ap, ◌∙◌, append_assoc, arith}
use Rattle.std.specs.List.{flat_map, AllByRecursion}
use Rattle.std.proofs.lemmas.Bool.{le-ltb}
use Rattle.std.proofs.lemmas.List.{append-nil, length-append, take_at}
use Rattle.object_format.specs.Opcode.{row, opcode_of}
use Rattle.object_format.specs.Code.{Instruction, Piece, bytes_of, size_of, spelled, IsInstruction, IsWhole, begun_by, pieces_after, pieces_from, whole_one, instructions, located}
use Rattle.object_format.specs.declared.opcode.Opcode.{Opcode}
use Rattle.object_format.proofs.Opcodes.{opcode_of-number}

-- ---- the bytes of instructions

pub spelled-append : (xs ys : List Instruction) → spelled (xs ++ ys) ≡ spelled xs ++ spelled ys
spelled-append [] ys = refl
spelled-append (x ∷ xs) ys = ap (λ bs. bytes_of x ++ bs) (spelled-append xs ys) ∙ sym (append_assoc (bytes_of x) (spelled xs) (spelled ys))

pub length-bytes_of : (i : Instruction) → IsInstruction i → length (bytes_of i) ≡ size_of i
length-bytes_of i h = omega (arith, h)

-- ---- one instruction

-- bytes of an operand are passed over
pub pieces_after-operand : (offset : ℕ) (operand code : List ℕ) → pieces_after (length operand) offset (operand ++ code) ≡ pieces_after 0 (offset + length operand) code
pieces_after-operand offset [] code = let same : offset ≡ offset + 0 = omega arith in ap (λ (n : ℕ). pieces_after 0 n code) same
pieces_after-operand offset (b ∷ bs) code =
    let place : (offset + 1) + length bs ≡ offset + suc (length bs) = omega arith in
    pieces_after-operand (offset + 1) bs code ∙ ap (λ (n : ℕ). pieces_after 0 n code) place

-- the same by their count
pub pieces_after-skip : (offset k : ℕ) (bytes : List ℕ) → k ≤ length bytes → pieces_after k offset bytes ≡ pieces_after 0 (offset + k) (drop k bytes)
pieces_after-skip offset zero [] h = refl
pieces_after-skip offset (suc k) [] h = absurd (omega arith)
pieces_after-skip offset zero (b ∷ bs) h = let same : offset ≡ offset + 0 = omega arith in ap (λ (n : ℕ). pieces_after 0 n (b ∷ bs)) same
pieces_after-skip offset (suc k) (b ∷ bs) h =
    let place : (offset + 1) + k ≡ offset + suc k = omega arith in
    pieces_after-skip (offset + 1) k bs (omega arith) ∙ ap (λ (n : ℕ). pieces_after 0 n (drop k bs)) place

begun_by-operand : (o : Opcode) (operand code : List ℕ) → length operand ≡ (row o).operand → begun_by (Some o) (operand ++ code) ≡ Some (record { opcode = o; operand = operand })
begun_by-operand o operand code h =
    let long : ltb (length (operand ++ code)) (row o).operand ≡ false = le-ltb _ _ (omega (arith, length-append operand code, h)) in
    let taken : take (row o).operand (operand ++ code) ≡ operand = take_at operand code (row o).operand h in
    rw (long, taken) refl

-- the first piece of code that begins with an instruction
pub pieces_from-instruction : (offset : ℕ) (i : Instruction) (code : List ℕ) → IsInstruction i
    → pieces_from offset (bytes_of i ++ code) ≡ record { offset = offset; instruction = Some i } ∷ pieces_from (offset + size_of i) code
pieces_from-instruction offset i code h =
    let o = i.opcode in
    let begun = begun_by-operand o i.operand code h in
    let place : (offset + 1) + length i.operand ≡ offset + size_of i = omega (arith, h) in
    let left : pieces_after (row o).operand (offset + 1) (i.operand ++ code) ≡ pieces_after 0 (offset + size_of i) code =
    ap (λ (n : ℕ). pieces_after n (offset + 1) (i.operand ++ code)) (sym h) ∙ pieces_after-operand (offset + 1) i.operand code ∙ ap (λ (n : ℕ). pieces_after 0 n code) place in
    rw (opcode_of-number o, left) (ap (λ x. record { offset = offset; instruction = x } ∷ pieces_after 0 (offset + size_of i) code) begun)

-- ---- instructions one after the other

-- code after whole code is read as by itself, from where that ends
pub pieces_from-spelled : (offset : ℕ) (is : List Instruction) (code : List ℕ) → AllByRecursion IsInstruction is
    → pieces_from offset (spelled is ++ code) ≡ located offset is ++ pieces_from (offset + length (spelled is)) code
pieces_from-spelled offset [] code h = let same : offset ≡ offset + 0 = omega arith in ap (λ (n : ℕ). pieces_from n code) same
pieces_from-spelled offset (i ∷ is) code h =
    let place : (offset + size_of i) + length (spelled is) ≡ offset + length (spelled (i ∷ is)) = omega (arith, length-append (bytes_of i) (spelled is), h.0) in
    ap (pieces_from offset) (append_assoc (bytes_of i) (spelled is) code)
    ∙ pieces_from-instruction offset i (spelled is ++ code) h.0
    ∙ ap (λ ps. record { offset = offset; instruction = Some i } ∷ ps) (pieces_from-spelled (offset + size_of i) is code h.1 ∙ ap (λ (n : ℕ). located (offset + size_of i) is ++ pieces_from n code) place)

-- the pieces of whole code are its instructions, each where it stands
pub pieces_from-whole : (offset : ℕ) (is : List Instruction) → AllByRecursion IsInstruction is → pieces_from offset (spelled is) ≡ located offset is
pieces_from-whole offset is h =
    ap (pieces_from offset) (sym (append-nil (spelled is))) ∙ pieces_from-spelled offset is [] h ∙ append-nil (located offset is)

whole_ones-located : (offset : ℕ) (is : List Instruction) → flat_map (λ p. whole_one p.instruction) (located offset is) ≡ is
whole_ones-located offset [] = refl
whole_ones-located offset (i ∷ is) = ap (λ js. i ∷ js) (whole_ones-located (offset + size_of i) is)

-- code is read back from its instructions' spelling
pub instructions-spelled : (is : List Instruction) → AllByRecursion IsInstruction is → instructions (spelled is) ≡ is
unfolding instructions
instructions-spelled is h = ap (flat_map (λ p. whole_one p.instruction)) (pieces_from-whole 0 is h) ∙ whole_ones-located 0 is

-- whole code has just the instructions that spell it
pub instructions-whole : (code : List ℕ) (h : IsWhole code) → instructions code ≡ h.parts
instructions-whole code h = ap instructions (sym h.spelled) ∙ instructions-spelled h.parts h.good

-- the piece at the end of whole code is the instruction that stands next
pub pieces_from-next : (offset : ℕ) (is : List Instruction) (i : Instruction) (code : List ℕ) → AllByRecursion IsInstruction is → IsInstruction i
    → pieces_from offset (spelled is ++ (bytes_of i ++ code)) ≡ located offset is ++ record { offset = offset + length (spelled is); instruction = Some i } ∷ pieces_from (offset + length (spelled is) + size_of i) code
pieces_from-next offset is i code h whole =
    pieces_from-spelled offset is (bytes_of i ++ code) h ∙ ap (λ ps. located offset is ++ ps) (pieces_from-instruction (offset + length (spelled is)) i code whole)
