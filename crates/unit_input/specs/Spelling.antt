-- The one text of a unit's input. Numbers are big-endian.
--
--     Input    = "LRUI" version(2) level(1) count(4) Fn* count(4) External*
--     Fn       = Symbol external(1) result(2) params(1) count(4) width(2)* Block
--     External = Symbol params(2) result(2)
--     Symbol   = length(4) byte*
--     Block    = count(4) Stmt*
--     Stmt     = 01 local(4) Expr | 02 local(4) offset(2) width(2) Expr | 03 Expr Block Block | 04 Expr Block
--              | 05 Expr | 06 Expr | 07 Expr | 08 Expr
--     Expr     = 01 number(8) | 02 truth(1) | 03 local(4) | 04 offset(2) width(2) Expr | 05 count(1) Expr*
--              | 06 operator(1) Expr | 07 operator(1) Expr Expr | 08 callee(4) count(1) Expr*
--
-- An operator is the opcode of its instruction; `&&` is 20 and `||` is 21.
use Rattle.std.specs.Prelude.{ℕ, Bool, true, false, List, [], ◌∷◌, ◌++◌, length}
use Rattle.std.specs.Int.{w8, w16, w32, w64, to_be_bytes, cast_unsigned}
use Rattle.std.specs.List.{flat_map}
use Rattle.unit_input.specs.declared.expr.UnaryOp.{UnaryOp}
use Rattle.unit_input.specs.declared.expr.UnaryOp.TheVariants as unary_op
use Rattle.unit_input.specs.declared.expr.BinaryOp.{BinaryOp}
use Rattle.unit_input.specs.declared.expr.BinaryOp.TheVariants as binary_op
use Rattle.unit_input.specs.Exprs.{PlainExpr, int, truth, local, field, tuple, unary, binary, call, PlainExprs, no_exprs, exprs, expr_count}
use Rattle.unit_input.specs.Stmts.{PlainStmt, declare, assign, fork, loop, give, print, assert, eval, PlainStmts, no_stmts, stmts, stmt_count}
use Rattle.unit_input.specs.Inputs.{PlainFn, PlainExternal, PlainInput}

abbrev pub unary_byte : UnaryOp → ℕ
unary_byte unary_op.Neg = 0x0b
unary_byte unary_op.Not = 0x12

abbrev pub binary_byte : BinaryOp → ℕ
binary_byte binary_op.Add = 0x06
binary_byte binary_op.Sub = 0x07
binary_byte binary_op.Mul = 0x08
binary_byte binary_op.Div = 0x09
binary_byte binary_op.Rem = 0x0a
binary_byte binary_op.Equal = 0x0c
binary_byte binary_op.NotEqual = 0x0d
binary_byte binary_op.Less = 0x0e
binary_byte binary_op.AtMost = 0x0f
binary_byte binary_op.Greater = 0x10
binary_byte binary_op.AtLeast = 0x11
binary_byte binary_op.And = 0x20
binary_byte binary_op.Or = 0x21

abbrev pub truth_byte : Bool → ℕ
truth_byte true = 1
truth_byte false = 0

-- a number in one, two and four bytes
abbrev pub one : ℕ → List ℕ
one n = to_be_bytes w8 n

abbrev pub two : ℕ → List ℕ
two n = to_be_bytes w16 n

abbrev pub four : ℕ → List ℕ
four n = to_be_bytes w32 n

-- the tag and what follows it
abbrev mutual
  pub spell_expr : PlainExpr → List ℕ
  spell_expr (int v) = 0x01 ∷ to_be_bytes w64 (cast_unsigned w64 v)
  spell_expr (truth b) = 0x02 ∷ truth_byte b ∷ []
  spell_expr (local n) = 0x03 ∷ four n
  spell_expr (field e offset wide) = 0x04 ∷ (two offset ++ (two wide ++ spell_expr e))
  spell_expr (tuple es) = 0x05 ∷ (one (expr_count es) ++ spell_exprs es)
  spell_expr (unary op e) = 0x06 ∷ unary_byte op ∷ spell_expr e
  spell_expr (binary op a b) = 0x07 ∷ binary_byte op ∷ (spell_expr a ++ spell_expr b)
  spell_expr (call k es) = 0x08 ∷ (four k ++ (one (expr_count es) ++ spell_exprs es))

  pub spell_exprs : PlainExprs → List ℕ
  spell_exprs no_exprs = []
  spell_exprs (exprs e es) = spell_expr e ++ spell_exprs es

-- the text of statements behind their count
abbrev pub counted : PlainStmts → List ℕ → List ℕ
counted ss text = four (stmt_count ss) ++ text

abbrev mutual
  pub spell_stmt : PlainStmt → List ℕ
  spell_stmt (declare n e) = 0x01 ∷ (four n ++ spell_expr e)
  spell_stmt (assign n offset wide e) = 0x02 ∷ (four n ++ (two offset ++ (two wide ++ spell_expr e)))
  spell_stmt (fork e a b) = 0x03 ∷ (spell_expr e ++ (counted a (spell_stmts a) ++ counted b (spell_stmts b)))
  spell_stmt (loop e a) = 0x04 ∷ (spell_expr e ++ counted a (spell_stmts a))
  spell_stmt (give e) = 0x05 ∷ spell_expr e
  spell_stmt (print e) = 0x06 ∷ spell_expr e
  spell_stmt (assert e) = 0x07 ∷ spell_expr e
  spell_stmt (eval e) = 0x08 ∷ spell_expr e

  pub spell_stmts : PlainStmts → List ℕ
  spell_stmts no_stmts = []
  spell_stmts (stmts s ss) = spell_stmt s ++ spell_stmts ss

abbrev pub spell_block : PlainStmts → List ℕ
spell_block ss = counted ss (spell_stmts ss)

abbrev pub spell_symbol : List ℕ → List ℕ
spell_symbol s = four (length s) ++ s

abbrev pub spell_fn : PlainFn → List ℕ
spell_fn f = spell_symbol f.symbol ++ (truth_byte f.external ∷ (two f.«result» ++ (f.params ∷ (four (length f.locals) ++ (flat_map two f.locals ++ spell_block f.body)))))

abbrev pub spell_external : PlainExternal → List ℕ
spell_external x = spell_symbol x.symbol ++ (two x.params ++ two x.«result»)

-- "LRUI" and version 1
abbrev pub magic : List ℕ
magic = 0x4c ∷ 0x52 ∷ 0x55 ∷ 0x49 ∷ 0x00 ∷ 0x01 ∷ []

abbrev pub spell : PlainInput → List ℕ
spell x = magic ++ (x.level ∷ (four (length x.functions) ++ (flat_map spell_fn x.functions ++ (four (length x.externals) ++ flat_map spell_external x.externals))))
