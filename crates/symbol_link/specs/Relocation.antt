-- What code becomes when the numbers of its calls change.
use Rattle.std.specs.Prelude.{ℕ, List, map, Bool, true, false}
use Rattle.std.specs.Int.{w32, from_be_bytes, to_be_bytes}
use Rattle.object_format.specs.Code.{Instruction, is_call, spelled, instructions}

-- the operand of a call is the number of what it calls, in four bytes; others stay
abbrev pub operand_relocated : (ℕ → ℕ) → Bool → List ℕ → List ℕ
operand_relocated place true operand = to_be_bytes w32 (place (from_be_bytes w32 operand))
operand_relocated place false operand = operand

abbrev pub instruction_relocated : (ℕ → ℕ) → Instruction → Instruction
instruction_relocated place i = record { opcode = i.opcode; operand = operand_relocated place (is_call i.opcode) i.operand }

-- code with each call's number n replaced by `place n`
unfoldable pub relocated : (ℕ → ℕ) → List ℕ → List ℕ
relocated place code = spelled (map (instruction_relocated place) (instructions code))
