-- The code of each part is whole instructions, whose calls have the numbers of its tree.
use Rattle.std.proofs.Common.{◌≡◌, ℕ, zero, suc, ◌+◌, ◌*◌, ◌/◌, ◌%◌, ◌<◌, ◌≤◌, List, [], ◌∷◌, ◌++◌, Bool, true, false, refl, sym, ap, ◌∙◌, arith}
use Rattle.std.specs.Prelude.{ℤ, pos, if◌then◌else◌}
use Rattle.std.specs.Int.{w8, w32, w64, to_be_bytes, from_be_bytes, cast_unsigned}
use Rattle.std.specs.List.{AllByRecursion}
use native.Mathlib.Nat as nat
use Rattle.std.proofs.lemmas.Bool.{false≢true}
use Rattle.object_format.specs.Code.{Instruction, IsInstruction, IsLinkedInstruction, CallIsBelow, is_call}
use Rattle.object_format.specs.declared.opcode.Opcode.TheVariants as op
use Rattle.unit_ir.specs.declared.operator.Unary.{Unary}
use Rattle.unit_ir.specs.declared.operator.Unary.TheVariants as unary
use Rattle.unit_ir.specs.declared.operator.Binary.{Binary}
use Rattle.unit_ir.specs.Exprs.{PlainExpr, word, load, op1, op2, both, either, call, seq, bind, PlainExprs, no_exprs, exprs}
use Rattle.unit_ir.specs.Stmts.{PlainStmt, store, fork, loop, give, print, eval, PlainStmts, no_stmts, stmts}
use Rattle.unit_ir.specs.InRange.{ExprInRange, ExprsInRange, StmtInRange, StmtsInRange}
use Rattle.unit_emit.specs.Code.{plain, with_byte, with_number, push, is_short, stores, pops, unary_opcode, binary_opcode, expr_code, exprs_code, stmt_code, stmts_code, last_of, function_code}

byte_and_rest : (n p : ℕ) → n / p ≡ n / p % 256 + n / (p * 256) * 256
byte_and_rest n p = omega (arith, nat.div-div-eq-div-mul n p 256)

-- a number that is spelled in four bytes and read again is no greater
read_again : (n : ℕ) → from_be_bytes w32 (to_be_bytes w32 n) ≤ n
read_again n = omega (arith, byte_and_rest n 256, byte_and_rest n 65536)

-- an instruction, and where it is a call of a number below k
abbrev Good : ℕ → Instruction → Type 0
Good k = IsLinkedInstruction k

abbrev Whole : ℕ → List Instruction → Type 0
Whole k = AllByRecursion (Good k)

no_call : (k : ℕ) (i : Instruction) → is_call i.opcode ≡ false → CallIsBelow k i
no_call k i quiet is = absurd (false≢true (sym quiet ∙ ap is_call is))

good : (k : ℕ) (i : Instruction) → IsInstruction i → is_call i.opcode ≡ false → Good k i
good k i whole quiet = (whole, no_call k i quiet)

good_call : (k f : ℕ) → f < k → Good k (with_number op.Call f)
good_call k f below = (refl, λ is. omega (arith, read_again f))

whole_append : (k : ℕ) (xs ys : List Instruction) → Whole k xs → Whole k ys → Whole k (xs ++ ys)
whole_append k [] ys a b = b
whole_append k (x ∷ xs) ys a b = (a.0, whole_append k xs ys a.1 b)

good_push : (k : ℕ) (v : ℤ) → Good k (push v)
good_push k v = by (is_short v)
  where
    by : (b : Bool) → Good k (if b then with_byte op.Push8 (cast_unsigned w8 v) else record { opcode = op.Push64; operand = to_be_bytes w64 (cast_unsigned w64 v) })
    by true = good k (with_byte op.Push8 (cast_unsigned w8 v)) refl refl
    by false = good k (record { opcode = op.Push64; operand = to_be_bytes w64 (cast_unsigned w64 v) }) refl refl

good_jump : (k n : ℕ) → Good k (with_number op.Jump n)
good_jump k n = good k (with_number op.Jump n) refl refl

good_test : (k n : ℕ) → Good k (with_number op.JumpZero n)
good_test k n = good k (with_number op.JumpZero n) refl refl

good_stores : (k s w : ℕ) → Whole k (stores s w)
good_stores k s zero = tt
good_stores k s (suc w) = (good k (with_byte op.Store ((s + w) % 256)) refl refl, good_stores k s w)

good_pops : (k w : ℕ) → Whole k (pops w)
good_pops k zero = tt
good_pops k (suc w) = (good k (plain op.Pop) refl refl, good_pops k w)

good_unary : (k : ℕ) (o : Unary) → Good k (plain (unary_opcode o))
good_unary k unary.Neg = good k (plain op.Neg) refl refl
good_unary k unary.Not = good k (plain op.Not) refl refl

good_binary : (k : ℕ) (o : Binary) → Good k (plain (binary_opcode o))
good_binary k o = good k (plain (binary_opcode o)) refl refl

good_one : (k : ℕ) (i : Instruction) → Good k i → Whole k (i ∷ [])
good_one k i h = (h, tt)

mutual
  expr_whole : (n k : ℕ) (e : PlainExpr) → ExprInRange n k e → (p : ℕ) → Whole k (expr_code e p)
  expr_whole n k (word v) h p = (good_push k v, tt)
  expr_whole n k (load s) h p = (good k (with_byte op.Load s) refl refl, tt)
  expr_whole n k (op1 o a) h p = whole_append k _ _ (expr_whole n k a h p) (good_unary k o, tt)
  expr_whole n k (op2 o a b) h p = whole_append k _ _ (expr_whole n k a h.0 p) (whole_append k _ _ (expr_whole n k b h.1 _) (good_binary k o, tt))
  expr_whole n k (both a b) h p = whole_append k _ _ (expr_whole n k a h.0 p) (good_test k _, whole_append k _ _ (expr_whole n k b h.1 _) (good_jump k _, (good_push k (pos 0), tt)))
  expr_whole n k (either a b) h p = whole_append k _ _ (expr_whole n k a h.0 p) (good_test k _, (good_push k (pos 1), (good_jump k _, expr_whole n k b h.1 _)))
  expr_whole n k (call f es) h p = whole_append k _ _ (exprs_whole n k es h.1 p) (good_call k f h.0, tt)
  expr_whole n k (seq es) h p = exprs_whole n k es h p
  expr_whole n k (bind s w a b) h p = whole_append k _ _ (expr_whole n k a h.1 p) (whole_append k _ _ (good_stores k s w) (expr_whole n k b h.2 _))

  exprs_whole : (n k : ℕ) (es : PlainExprs) → ExprsInRange n k es → (p : ℕ) → Whole k (exprs_code es p)
  exprs_whole n k no_exprs h p = tt
  exprs_whole n k (exprs e es) h p = whole_append k _ _ (expr_whole n k e h.0 p) (exprs_whole n k es h.1 _)

mutual
  stmt_whole : (n k : ℕ) (s : PlainStmt) → StmtInRange n k s → (p : ℕ) → Whole k (stmt_code s p)
  stmt_whole n k (store s w e) h p = whole_append k _ _ (expr_whole n k e h.1 p) (good_stores k s w)
  stmt_whole n k (fork e a no_stmts) h p = whole_append k _ _ (expr_whole n k e h.0 p) (good_test k _, stmts_whole n k a h.1 _)
  stmt_whole n k (fork e a (stmts b bs)) h p =
      whole_append k _ _ (expr_whole n k e h.0 p) (good_test k _, whole_append k _ _ (stmts_whole n k a h.1 _) (good_jump k _, stmts_whole n k (stmts b bs) h.2 _))
  stmt_whole n k (loop e a) h p = whole_append k _ _ (expr_whole n k e h.0 p) (good_test k _, whole_append k _ _ (stmts_whole n k a h.1 _) (good_jump k _, tt))
  stmt_whole n k (give e) h p = whole_append k _ _ (expr_whole n k e h p) (good k (plain op.Return) refl refl, tt)
  stmt_whole n k (print e) h p = whole_append k _ _ (expr_whole n k e h p) (good k (plain op.Print) refl refl, tt)
  stmt_whole n k (eval e w) h p = whole_append k _ _ (expr_whole n k e h p) (good_pops k w)

  stmts_whole : (n k : ℕ) (ss : PlainStmts) → StmtsInRange n k ss → (p : ℕ) → Whole k (stmts_code ss p)
  stmts_whole n k no_stmts h p = tt
  stmts_whole n k (stmts s ss) h p = whole_append k _ _ (stmt_whole n k s h.0 p) (stmts_whole n k ss h.1 _)

good_last : (k n : ℕ) → Good k (last_of n)
good_last k zero = good k (plain op.Return) refl refl
good_last k (suc n) = good k (plain op.Trap) refl refl

pub function_whole : (n k : ℕ) (body : PlainStmts) (results : ℕ) → StmtsInRange n k body → AllByRecursion (IsLinkedInstruction k) (function_code body results)
function_whole n k body results h = whole_append k _ _ (stmts_whole n k body h 0) (good_last k results, tt)
