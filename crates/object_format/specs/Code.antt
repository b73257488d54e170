-- Code: instructions one after the other, their bytes, and how bytes of code are read.
use Rattle.std.specs.Prelude.{ℕ, zero, suc, ◌+◌, ◌≡◌, ◌<◌, Bool, true, false, nat_lt, if◌then◌else◌, List, [], ◌∷◌, ◌++◌, length, take, Option, Some, None}
use Rattle.std.specs.Int.{w32, from_be_bytes}
use Rattle.std.specs.List.{flat_map, AllByRecursion}
use Rattle.object_format.specs.Opcode.{row, opcode_of}
use Rattle.object_format.specs.declared.opcode.Opcode.{Opcode}
use Rattle.object_format.specs.declared.opcode.Opcode.TheVariants.{Call}

-- an instruction: its opcode, and the bytes of its operand
pub record Instruction : Type 0 where
  pub opcode : Opcode
  pub operand : List ℕ

-- its bytes
abbrev pub bytes_of : Instruction → List ℕ
bytes_of i = (row i.opcode).number ∷ i.operand

-- how many they are
abbrev pub size_of : Instruction → ℕ
size_of i = 1 + (row i.opcode).operand

-- the bytes of instructions, one after the other
abbrev pub spelled : List Instruction → List ℕ
spelled = flat_map bytes_of

-- the operand has as many bytes as the table says
abbrev pub IsInstruction : Instruction → Type 0
IsInstruction i = length i.operand ≡ (row i.opcode).operand

abbrev pub is_call : Opcode → Bool
is_call Call = true
is_call o = false

-- the number of what a call calls
abbrev pub callee_of : Instruction → ℕ
callee_of i = from_be_bytes w32 i.operand

-- a call's number is below the count of functions
abbrev pub CallIsBelow : ℕ → Instruction → Type 0
CallIsBelow count i = i.opcode ≡ Call → callee_of i < count

-- the bytes are those of some instructions, one after the other, each of them of this kind
pub record IsMadeOf (IsGood : Instruction → Type 0) (code : List ℕ) : Type 0 where
  pub parts : List Instruction
  pub spelled : flat_map bytes_of parts ≡ code
  pub good : AllByRecursion IsGood parts

-- an instruction of an image with so many functions
abbrev pub IsLinkedInstruction : ℕ → Instruction → Type 0
IsLinkedInstruction count i = IsInstruction i × CallIsBelow count i

-- the code is whole instructions
abbrev pub IsWhole : List ℕ → Type 0
IsWhole = IsMadeOf IsInstruction

-- the code is whole instructions, and each call's number is below the count
abbrev pub IsLinkedCode : ℕ → List ℕ → Type 0
IsLinkedCode count = IsMadeOf (IsLinkedInstruction count)

-- ---- reading

-- a place of code at which an instruction should begin: its offset, and the whole instruction that begins there, if one does
pub record Piece : Type 0 where
  pub offset : ℕ
  pub instruction : Option Instruction

-- the bytes of operand behind a byte of code
abbrev pub operand_of : Option Opcode → ℕ
operand_of (Some o) = (row o).operand
operand_of None = 0

-- the instruction with this opcode, where the bytes behind it have the whole operand
abbrev pub begun_by : Option Opcode → List ℕ → Option Instruction
begun_by None behind = None
begun_by (Some o) behind = if nat_lt (length behind) (row o).operand then None else Some (record { opcode = o; operand = take (row o).operand behind })

-- the pieces of code whose first byte has this offset and whose first `operand` bytes belong to the instruction before
abbrev pub pieces_after : ℕ → ℕ → List ℕ → List Piece
pieces_after operand offset [] = []
pieces_after (suc k) offset (b ∷ bs) = pieces_after k (offset + 1) bs
pieces_after zero offset (b ∷ bs) = record { offset = offset; instruction = begun_by (opcode_of b) bs } ∷ pieces_after (operand_of (opcode_of b)) (offset + 1) bs

-- the pieces of code that begins at this offset
abbrev pub pieces_from : ℕ → List ℕ → List Piece
pieces_from = pieces_after 0

abbrev pub whole_one : Option Instruction → List Instruction
whole_one (Some i) = i ∷ []
whole_one None = []

-- the instructions of code
unfoldable pub instructions : List ℕ → List Instruction
instructions code = flat_map (λ p. whole_one p.instruction) (pieces_from 0 code)

-- instructions, one after the other from this offset on, as pieces
abbrev pub located : ℕ → List Instruction → List Piece
located offset [] = []
located offset (i ∷ is) = record { offset = offset; instruction = Some i } ∷ located (offset + size_of i) is
