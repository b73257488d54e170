-- The code of an IR part at an offset, by the codes of its parts and their lengths.
use Rattle.std.specs.Prelude.{◌≡◌, ℕ, zero, suc, ◌+◌, ◌%◌, ◌^◌, ℤ, pos, negsuc, List, [], ◌∷◌, ◌++◌, length, take, drop, Bool, if◌then◌else◌, nat_lt, ◌<◌, ◌≤◌, Result, Ok, Err, Vec}
use Rattle.std.specs.declared.alloc.Global.{Global}
use Rattle.std.specs.Int.{w32, w64, w8, to_be_bytes, cast_unsigned}
use Rattle.object_format.specs.Code.{Instruction, spelled}
use Rattle.object_format.specs.declared.opcode.Opcode.{Opcode}
use Rattle.object_format.specs.declared.opcode.Opcode.TheVariants as op
use Rattle.object_format.specs.declared.opcode.Operator.{Operator}
use Rattle.object_format.specs.declared.opcode.Operator.TheVariants as operator
use Rattle.object_format.specs.Version.{max_code}
use Rattle.unit_ir.specs.declared.operator.Unary.{Unary}
use Rattle.unit_ir.specs.declared.operator.Unary.TheVariants as unary
use Rattle.unit_ir.specs.declared.operator.Binary.{Binary}
use Rattle.unit_ir.specs.declared.operator.Binary.TheVariants as binary
use Rattle.unit_emit.specs.declared.function.Refused.{Refused}
use Rattle.unit_emit.specs.declared.function.Refused.TheVariants as refused
use Rattle.unit_ir.specs.Exprs.{PlainExpr, word, load, op1, op2, both, either, call, seq, bind, PlainExprs, no_exprs, exprs}
use Rattle.unit_ir.specs.Stmts.{PlainStmt, store, fork, loop, give, print, eval, PlainStmts, no_stmts, stmts}

-- how many bytes instructions have
abbrev pub bytes : List Instruction → ℕ
bytes is = length (spelled is)

-- ---- instructions

abbrev pub plain : Opcode → Instruction
plain o = record { opcode = o; operand = [] }

abbrev pub with_byte : Opcode → ℕ → Instruction
with_byte o b = record { opcode = o; operand = b ∷ [] }

abbrev pub with_number : Opcode → ℕ → Instruction
with_number o n = record { opcode = o; operand = to_be_bytes w32 n }

-- from -128 to 127
abbrev pub is_short : ℤ → Bool
is_short (pos n) = nat_lt n 128
is_short (negsuc n) = nat_lt n 128

abbrev pub push : ℤ → Instruction
push v = if is_short v then with_byte op.Push8 (cast_unsigned w8 v) else record { opcode = op.Push64; operand = to_be_bytes w64 (cast_unsigned w64 v) }

abbrev pub unary_opcode : Unary → Opcode
unary_opcode unary.Neg = op.Neg
unary_opcode unary.Not = op.Not

abbrev pub operator_of : Binary → Operator
operator_of binary.Add = operator.Add
operator_of binary.Sub = operator.Sub
operator_of binary.Mul = operator.Mul
operator_of binary.Div = operator.Div
operator_of binary.Rem = operator.Rem
operator_of binary.Equal = operator.Equal
operator_of binary.NotEqual = operator.NotEqual
operator_of binary.Less = operator.Less
operator_of binary.AtMost = operator.AtMost
operator_of binary.Greater = operator.Greater
operator_of binary.AtLeast = operator.AtLeast

abbrev pub binary_opcode : Binary → Opcode
binary_opcode o = op.Compute (operator_of o)

-- from the last of w slots down to s
abbrev pub stores : ℕ → ℕ → List Instruction
stores s zero = []
stores s (suc w) = with_byte op.Store ((s + w) % 2 ^ 8) ∷ stores s w

abbrev pub pops : ℕ → List Instruction
pops zero = []
pops (suc w) = plain op.Pop ∷ pops w

-- ---- parts: a code at each offset

abbrev pub Part : Type 0
Part = ℕ → List Instruction

abbrev pub nothing : Part
nothing p = []

abbrev pub one : Instruction → Part
one i p = i ∷ []

abbrev pub several : List Instruction → Part
several is p = is

-- one part and another behind it
abbrev pub behind : Part → Part → Part
behind a b p = a p ++ b (p + bytes (a p))

-- JZ x, [b], JMP y, x: PUSH8 0, y: with [b] at q
abbrev pub and_at : ℕ → List Instruction → List Instruction
and_at q b = with_number op.JumpZero (q + bytes b + 5) ∷ (b ++ with_number op.Jump (q + bytes b + 7) ∷ push (pos 0) ∷ [])

abbrev pub and_rest : Part → Part
and_rest b p = and_at (p + 5) (b (p + 5))

-- JZ x, PUSH8 1, JMP y, x: [b], y: with [b] at q
abbrev pub or_at : ℕ → List Instruction → List Instruction
or_at q b = with_number op.JumpZero q ∷ push (pos 1) ∷ with_number op.Jump (q + bytes b) ∷ b

abbrev pub or_rest : Part → Part
or_rest b p = or_at (p + 12) (b (p + 12))

-- ---- expressions

abbrev mutual
  pub expr_code : PlainExpr → Part
  expr_code (word v) = one (push v)
  expr_code (load s) = one (with_byte op.Load s)
  expr_code (op1 o a) = behind (expr_code a) (one (plain (unary_opcode o)))
  expr_code (op2 o a b) = behind (expr_code a) (behind (expr_code b) (one (plain (binary_opcode o))))
  expr_code (both a b) = behind (expr_code a) (and_rest (expr_code b))
  expr_code (either a b) = behind (expr_code a) (or_rest (expr_code b))
  expr_code (call k es) = behind (exprs_code es) (one (with_number op.Call k))
  expr_code (seq es) = exprs_code es
  expr_code (bind s w a b) = behind (expr_code a) (behind (several (stores s w)) (expr_code b))

  pub exprs_code : PlainExprs → Part
  exprs_code no_exprs = nothing
  exprs_code (exprs e es) = behind (expr_code e) (exprs_code es)

-- ---- statements

-- JZ x, [a], x: with [a] at q
abbrev pub if_at : ℕ → List Instruction → List Instruction
if_at q a = with_number op.JumpZero (q + bytes a) ∷ a

abbrev pub if_rest : Part → Part
if_rest a p = if_at (p + 5) (a (p + 5))

-- JZ x, [a], JMP y, x: [b], y: with [a] at q
abbrev pub else_at : ℕ → List Instruction → Part → List Instruction
else_at q a b = with_number op.JumpZero (q + bytes a + 5) ∷ (a ++ with_number op.Jump (q + bytes a + 5 + bytes (b (q + bytes a + 5))) ∷ b (q + bytes a + 5))

abbrev pub else_rest : Part → Part → Part
else_rest a b p = else_at (p + 5) (a (p + 5)) b

-- JZ x, [a], JMP z, x: with [a] at q
abbrev pub while_at : ℕ → ℕ → List Instruction → List Instruction
while_at z q a = with_number op.JumpZero (q + bytes a + 5) ∷ (a ++ with_number op.Jump z ∷ [])

abbrev pub while_rest : ℕ → Part → Part
while_rest z a p = while_at z (p + 5) (a (p + 5))

abbrev pub while_code : Part → Part → Part
while_code e a p = behind e (while_rest p a) p

abbrev mutual
  pub stmt_code : PlainStmt → Part
  stmt_code (store s w e) = behind (expr_code e) (several (stores s w))
  stmt_code (fork e a no_stmts) = behind (expr_code e) (if_rest (stmts_code a))
  stmt_code (fork e a (stmts b bs)) = behind (expr_code e) (else_rest (stmts_code a) (stmts_code (stmts b bs)))
  stmt_code (loop e a) = while_code (expr_code e) (stmts_code a)
  stmt_code (give e) = behind (expr_code e) (one (plain op.Return))
  stmt_code (print e) = behind (expr_code e) (one (plain op.Print))
  stmt_code (eval e w) = behind (expr_code e) (several (pops w))

  pub stmts_code : PlainStmts → Part
  stmts_code no_stmts = nothing
  stmts_code (stmts s ss) = behind (stmt_code s) (stmts_code ss)

-- ---- functions

abbrev pub last_of : ℕ → Instruction
last_of zero = plain op.Return
last_of (suc n) = plain op.Trap

-- the whole code of a function with this body and so many words of result
abbrev pub function_code : PlainStmts → ℕ → List Instruction
function_code body results = behind (stmts_code body) (one (last_of results)) 0

-- ---- a buffer

-- behind the old bytes stands the part's code
pub record Emits (old : List ℕ) (part : Part) (new : List ℕ) : Type 0 where
  pub is : new ≡ old ++ spelled (part (length old))

-- four bytes at this place become a number
abbrev pub mended : List ℕ → ℕ → ℕ → List ℕ
mended code at n = take at code ++ (to_be_bytes w32 n ++ drop (at + 4) code)

-- a function's code, or that it is too long, or want of memory
abbrev pub Coded : List Instruction → Result (Vec ℕ Global) Refused → Type 0
Coded is (Ok code) = (code.items ≡ spelled is) × (bytes is ≤ max_code)
Coded is (Err refused.TooLong) = max_code < bytes is
Coded is (Err refused.Memory) = Unit {0}
