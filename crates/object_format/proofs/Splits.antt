-- The first instruction of code, cut off.
use Rattle.std.proofs.Common.{◌≡◌, ℕ, ◌-◌, ◌≤◌, List, [], ◌∷◌, ◌++◌, length, get_or, take, drop, Some, sym, ap, ◌∙◌, arith}
use Rattle.std.proofs.lemmas.List.{length-take, take_all, take-append-drop}
use Rattle.object_format.specs.Opcode.{row, opcode_of}
use Rattle.object_format.specs.Splitting.{with_operand, Splits}
use Rattle.object_format.specs.declared.opcode.Opcode.{Opcode}
use Rattle.object_format.proofs.Opcodes.{number-opcode_of}

-- the bytes behind the first are seen as a part of all, as the code cuts them off
pub splits : (code : List ℕ) (o : Opcode) (operand left : List ℕ) (n m : ℕ) → 1 ≤ length code → opcode_of (get_or code 0 0) ≡ Some o → n ≡ (row o).operand → m ≡ (row o).operand
    → n ≤ length (take (length code - 1) (drop 1 code)) → operand ≡ take m (take (length code - 1) (drop 1 code)) → left ≡ drop m (take (length code - 1) (drop 1 code)) → Splits code (with_operand o operand) left
splits [] o operand left n m some is size again long front back = absurd (omega arith)
splits (b ∷ bs) o operand left n m some is size again long front back =
    let k = (row o).operand in
    let behind : take (length (b ∷ bs) - 1) (drop 1 (b ∷ bs)) ≡ bs = take_all (length (b ∷ bs) - 1) bs (omega arith) in
    let operand_is : operand ≡ take k bs = front ∙ ap (take m) behind ∙ ap (λ j. take j bs) again in
    let left_is : left ≡ drop k bs = back ∙ ap (drop m) behind ∙ ap (λ j. drop j bs) again in
    let fits : k ≤ length bs = omega (arith, long, ap length behind, size) in
    record {
      whole = omega (arith, ap length operand_is, length-take k bs, fits);
      joined =
          ap (λ (xs : List ℕ). b ∷ xs) (sym (take-append-drop k bs))
          ∙ ap (λ (x : ℕ). x ∷ (take k bs ++ drop k bs)) (sym (number-opcode_of b o is))
          ∙ ap (λ (xs : List ℕ). (row o).number ∷ (xs ++ drop k bs)) (sym operand_is)
          ∙ ap (λ (xs : List ℕ). (row o).number ∷ (operand ++ xs)) (sym left_is);
    }
