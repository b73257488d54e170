-- The lines of code, instruction by instruction.
use Rattle.std.proofs.Common.{◌≡◌, ◌∙◌, ℕ, ◌+◌, List, ◌++◌, ap, sym, append_assoc}
use Rattle.std.proofs.lemmas.List.{append-nil}
use Rattle.std.specs.List.{flat_map}
use Rattle.object_format.specs.Code.{Instruction, size_of, IsWhole}
use Rattle.object_format.specs.Splitting.{Splits, BeginsNone}
use Rattle.object_format.proofs.CodeFaults.{whole-none}
use Rattle.object_format.proofs.Pieces.{pieces_from-instruction}
use Rattle.listings.specs.Listing.{piece_line, code_lines, instruction_line}

code_lines-split : (offset : ℕ) (code : List ℕ) (i : Instruction) (left : List ℕ) → Splits code i left → code_lines offset code ≡ instruction_line offset i.opcode i.operand ++ code_lines (offset + size_of i) left
code_lines-split offset code i left h = ap (code_lines offset) h.joined ∙ ap (flat_map (λ p. piece_line p.offset p.instruction)) (pieces_from-instruction offset i left h.whole)

-- the line of an instruction, with the lines of what is behind it
pub lists_one : (offset next : ℕ) (code : List ℕ) (i : Instruction) (left old new all : List ℕ) → Splits code i left → next ≡ offset + size_of i → new ≡ old ++ instruction_line offset i.opcode i.operand
    → old ++ code_lines offset code ≡ all → new ++ code_lines next left ≡ all
lists_one offset next code i left old new all h ends wrote so_far =
    let line = instruction_line offset i.opcode i.operand in
    ap (λ (n : ℕ). new ++ code_lines n left) ends
    ∙ ap (λ (t : List ℕ). t ++ code_lines (offset + size_of i) left) wrote
    ∙ append_assoc old line (code_lines (offset + size_of i) left)
    ∙ ap (λ (t : List ℕ). old ++ t) (sym (code_lines-split offset code i left h))
    ∙ so_far

-- nothing is left where no instruction begins
pub lists_all : (offset : ℕ) (code text all : List ℕ) → IsWhole code → BeginsNone code → text ++ code_lines offset code ≡ all → text ≡ all
lists_all offset code text all h none so_far = sym (append-nil text) ∙ ap (λ (c : List ℕ). text ++ code_lines offset c) (sym (whole-none code h none)) ∙ so_far
