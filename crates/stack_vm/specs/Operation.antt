-- What the instructions of the machine do, each where it stands in code.
use Rattle.std.specs.Prelude.{◌≡◌, ◌<◌, drop, ℕ, ◌+◌, List, [], ◌∷◌, ◌++◌, length, slice_index, eqb, if◌then◌else◌, Option, Some, None}
use Rattle.std.specs.Int.{w8, w32, w64, from_be_bytes, cast_signed}
use Rattle.object_format.specs.Code.{Instruction, Piece, begun_by, pieces_after, pieces_from}
use Rattle.object_format.specs.Opcode.{row, opcode_of}
use Rattle.object_format.specs.declared.opcode.Opcode.{Opcode}
use Rattle.object_format.specs.declared.opcode.Opcode.TheVariants as op
use Rattle.stack_vm.specs.declared.operation.Operation.{Operation}
use Rattle.stack_vm.specs.declared.operation.Placed.{Placed}
use Rattle.stack_vm.specs.declared.operation.Operation.TheVariants.{Push8, Push64, Load, Store, Pop, Compute, Neg, Not, Jump, JumpZero, Call, Return, Print, Trap, Dup, Nop}

-- its opcode, which has its row in the table
abbrev pub opcode : Operation → Opcode
opcode (Push8 n) = op.Push8
opcode (Push64 n) = op.Push64
opcode (Load s) = op.Load
opcode (Store s) = op.Store
opcode Pop = op.Pop
opcode (Compute o) = op.Compute o
opcode Neg = op.Neg
opcode Not = op.Not
opcode (Jump to) = op.Jump
opcode (JumpZero to) = op.JumpZero
opcode (Call k) = op.Call
opcode Return = op.Return
opcode Print = op.Print
opcode Trap = op.Trap
opcode Dup = op.Dup
opcode Nop = op.Nop

-- how many bytes it is
abbrev pub size : Operation → ℕ
size i = 1 + (row (opcode i)).operand

-- how many operand words it takes, a call those of its callee besides
abbrev pub takes : Operation → ℕ
takes i = (row (opcode i)).takes

-- what an instruction with this opcode and these bytes of operand does
abbrev pub read_as : Opcode → List ℕ → Operation
read_as op.Push8 bytes = Push8 (cast_signed w8 (slice_index bytes 0))
read_as op.Push64 bytes = Push64 (cast_signed w64 (from_be_bytes w64 bytes))
read_as op.Load bytes = Load (slice_index bytes 0)
read_as op.Store bytes = Store (slice_index bytes 0)
read_as op.Pop bytes = Pop
read_as (op.Compute o) bytes = Compute o
read_as op.Neg bytes = Neg
read_as op.Not bytes = Not
read_as op.Jump bytes = Jump (from_be_bytes w32 bytes)
read_as op.JumpZero bytes = JumpZero (from_be_bytes w32 bytes)
read_as op.Call bytes = Call (from_be_bytes w32 bytes)
read_as op.Return bytes = Return
read_as op.Print bytes = Print
read_as op.Trap bytes = Trap
read_as op.Dup bytes = Dup
read_as op.Nop bytes = Nop

-- what an instruction does
abbrev pub decoded : Instruction → Operation
decoded i = read_as i.opcode i.operand

-- the operation at an offset, where a whole instruction begins there
abbrev pub placed_by : ℕ → Option Instruction → List Placed
placed_by at None = []
placed_by at (Some i) = record { offset = at; operation = decoded i } ∷ []

-- the operations of pieces of code
abbrev pub operations_in : List Piece → List Placed
operations_in [] = []
operations_in (p ∷ ps) = placed_by p.offset p.instruction ++ operations_in ps

-- the operations of a function's code
unfoldable pub operations : List ℕ → List Placed
operations code = operations_in (pieces_from 0 code)

-- the same of code whose first byte has this offset and whose first `operand` bytes belong to the instruction before
abbrev pub placed : ℕ → ℕ → List ℕ → List Placed
placed at operand code = operations_in (pieces_after operand at code)

-- the operation that these bytes begin with this opcode
abbrev pub stands_by : ℕ → Option Opcode → List ℕ → List Placed
stands_by at opcode behind = placed_by at (begun_by opcode behind)

-- This operation stands in code at this offset.
pub record IsThere (code : List ℕ) (offset : ℕ) (i : Operation) : Type 0 where
  pub within : offset < length code
  pub begun : stands_by offset (opcode_of (slice_index code offset)) (drop (offset + 1) code) ≡ record { offset = offset; operation = i } ∷ []

-- the first of these at an offset
abbrev pub find_at : List Placed → ℕ → Option Operation
find_at [] offset = None
find_at (p ∷ ps) offset = if eqb p.offset offset then Some p.operation else find_at ps offset

-- the operation of a function's code at an offset
abbrev pub operation_at : List ℕ → ℕ → Option Operation
operation_at code offset = find_at (operations code) offset
