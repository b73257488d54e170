-- A byte and the opcode that it stands for.
use Rattle.std.proofs.Common.{◌≡◌, ℕ, zero, suc, ◌+◌, ◌<◌, List, [], ◌∷◌, Some, None, refl, sym, ap, ◌∙◌, arith, slice_get}
use Rattle.std.proofs.lemmas.Option.{slice_get_past}
use Rattle.object_format.specs.Opcode.{row, opcodes, opcode_of}
use Rattle.object_format.specs.declared.opcode.Operator.TheVariants.{Add, Sub, Mul, Div, Rem, Equal, NotEqual, Less, AtMost, Greater, AtLeast}
use Rattle.object_format.specs.declared.opcode.Opcode.{Opcode}
use Rattle.object_format.specs.declared.opcode.Opcode.TheVariants.{Push8, Push64, Load, Store, Pop, Compute, Neg, Not, Jump, JumpZero, Call, Return, Print, Trap, Dup, Nop}

-- a byte past the table stands for none
pub opcode_of-past : (byte : ℕ) → 26 < byte → opcode_of byte ≡ None
opcode_of-past zero h = absurd (omega arith)
opcode_of-past (suc n) h = slice_get_past opcodes n (omega arith)

-- opcodes whose numbers go up by one from n
abbrev AreNumbered : ℕ → List Opcode → Type 0
AreNumbered n [] = Unit {0}
AreNumbered n (o ∷ os) = ((row o).number ≡ n) × AreNumbered (suc n) os

numbered_at : (os : List Opcode) (n k : ℕ) (o : Opcode) → AreNumbered n os → slice_get os k ≡ Some o → (row o).number ≡ n + k
numbered_at [] n k o h e = absurd cc
numbered_at (x ∷ xs) n zero o h e = let same : x ≡ o = cc in ap (λ (y : Opcode). (row y).number) (sym same) ∙ h.0 ∙ omega arith
numbered_at (x ∷ xs) n (suc k) o h e = numbered_at xs (suc n) k o h.1 e ∙ omega arith

-- the number of the opcode that a byte stands for is that byte
pub number-opcode_of : (byte : ℕ) (o : Opcode) → opcode_of byte ≡ Some o → (row o).number ≡ byte
number-opcode_of zero o e = absurd cc
number-opcode_of (suc n) o e = numbered_at opcodes 1 n o ((refl, (refl, (refl, (refl, (refl, (refl, (refl, (refl, (refl, (refl, (refl, (refl, (refl, (refl, (refl, (refl, (refl, (refl, (refl, (refl, (refl, (refl, (refl, (refl, (refl, (refl, tt))))))))))))))))))))))))))) e ∙ omega arith

-- and the number of an opcode stands for it
pub opcode_of-number : (o : Opcode) → opcode_of (row o).number ≡ Some o
opcode_of-number Push8 = refl
opcode_of-number Push64 = refl
opcode_of-number Load = refl
opcode_of-number Store = refl
opcode_of-number Pop = refl
opcode_of-number (Compute Add) = refl
opcode_of-number (Compute Sub) = refl
opcode_of-number (Compute Mul) = refl
opcode_of-number (Compute Div) = refl
opcode_of-number (Compute Rem) = refl
opcode_of-number Neg = refl
opcode_of-number (Compute Equal) = refl
opcode_of-number (Compute NotEqual) = refl
opcode_of-number (Compute Less) = refl
opcode_of-number (Compute AtMost) = refl
opcode_of-number (Compute Greater) = refl
opcode_of-number (Compute AtLeast) = refl
opcode_of-number Not = refl
opcode_of-number Jump = refl
opcode_of-number JumpZero = refl
opcode_of-number Call = refl
opcode_of-number Return = refl
opcode_of-number Print = refl
opcode_of-number Trap = refl
opcode_of-number Dup = refl
opcode_of-number Nop = refl
