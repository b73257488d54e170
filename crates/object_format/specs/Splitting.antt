-- Code that is gone through, from an instruction to the next.
use Rattle.std.specs.Prelude.{◌≡◌, ℕ, List, [], ◌∷◌, ◌++◌, Option, Some, None, drop}
use Rattle.object_format.specs.Code.{Instruction, bytes_of, IsInstruction, operand_of, begun_by}
use Rattle.object_format.specs.Opcode.{opcode_of}
use Rattle.object_format.specs.declared.opcode.Opcode.{Opcode}
use denote.Ref.{Bor}

-- an instruction from its parts
abbrev pub with_operand : Opcode → List ℕ → Instruction
with_operand opcode operand = record { opcode = opcode; operand = operand }

-- Code is this instruction, and what is left after it.
pub record Splits (code : List ℕ) (i : Instruction) (left : List ℕ) : Type 0 where
  pub whole : IsInstruction i
  pub joined : code ≡ bytes_of i ++ left

-- no whole instruction begins these bytes
abbrev pub BeginsNone : List ℕ → Type 0
BeginsNone [] = Unit {0}
BeginsNone (b ∷ bs) = begun_by (opcode_of b) bs ≡ None
