-- The table of opcodes. Codec, validator, machine and listing all cite it.
use Rattle.std.specs.Prelude.{ℕ, zero, suc, List, [], ◌∷◌, Option, None, slice_get}
use Rattle.object_format.specs.declared.opcode.Opcode.{Opcode}
use Rattle.object_format.specs.declared.opcode.Opcode.TheVariants.{Push8, Push64, Load, Store, Pop, Compute, Neg, Not, Jump, JumpZero, Call, Return, Print, Trap, Dup, Nop}
use Rattle.object_format.specs.declared.opcode.Operator.{Operator}
use Rattle.object_format.specs.declared.opcode.Operator.TheVariants.{Add, Sub, Mul, Div, Rem, Equal, NotEqual, Less, AtMost, Greater, AtLeast}

-- a line of the table: the byte, the bytes of operand behind it, the operand words taken and those pushed then
pub record Row : Type 0 where
  pub number : ℕ
  pub operand : ℕ
  pub takes : ℕ
  pub pushes : ℕ

-- the byte of an operator
abbrev pub operator_number : Operator → ℕ
operator_number Add = 0x06
operator_number Sub = 0x07
operator_number Mul = 0x08
operator_number Div = 0x09
operator_number Rem = 0x0a
operator_number Equal = 0x0c
operator_number NotEqual = 0x0d
operator_number Less = 0x0e
operator_number AtMost = 0x0f
operator_number Greater = 0x10
operator_number AtLeast = 0x11

-- a call takes its callee's params and pushes its result besides; a return leaves the words to the caller
abbrev pub row : Opcode → Row
row Push8 = record { number = 0x01; operand = 1; takes = 0; pushes = 1 }
row Push64 = record { number = 0x02; operand = 8; takes = 0; pushes = 1 }
row Load = record { number = 0x03; operand = 1; takes = 0; pushes = 1 }
row Store = record { number = 0x04; operand = 1; takes = 1; pushes = 0 }
row Pop = record { number = 0x05; operand = 0; takes = 1; pushes = 0 }
row (Compute operator) = record { number = operator_number operator; operand = 0; takes = 2; pushes = 1 }
row Neg = record { number = 0x0b; operand = 0; takes = 1; pushes = 1 }
row Not = record { number = 0x12; operand = 0; takes = 1; pushes = 1 }
row Jump = record { number = 0x13; operand = 4; takes = 0; pushes = 0 }
row JumpZero = record { number = 0x14; operand = 4; takes = 1; pushes = 0 }
row Call = record { number = 0x15; operand = 4; takes = 0; pushes = 0 }
row Return = record { number = 0x16; operand = 0; takes = 0; pushes = 0 }
row Print = record { number = 0x17; operand = 0; takes = 1; pushes = 0 }
row Trap = record { number = 0x18; operand = 0; takes = 0; pushes = 0 }
row Dup = record { number = 0x19; operand = 0; takes = 1; pushes = 2 }
row Nop = record { number = 0x1a; operand = 0; takes = 0; pushes = 0 }

-- the opcodes in the order of their numbers, from 1
abbrev pub opcodes : List Opcode
opcodes =
    Push8 ∷ Push64 ∷ Load ∷ Store ∷ Pop ∷ Compute Add ∷ Compute Sub ∷ Compute Mul ∷ Compute Div ∷ Compute Rem ∷ Neg
    ∷ Compute Equal ∷ Compute NotEqual ∷ Compute Less ∷ Compute AtMost ∷ Compute Greater ∷ Compute AtLeast
    ∷ Not ∷ Jump ∷ JumpZero ∷ Call ∷ Return ∷ Print ∷ Trap ∷ Dup ∷ Nop ∷ []

-- the opcode that a byte is
abbrev pub opcode_of : ℕ → Option Opcode
opcode_of zero = None
opcode_of (suc n) = slice_get opcodes n
