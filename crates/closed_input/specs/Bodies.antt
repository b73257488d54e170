-- What becomes of a body: a row for each expression and each statement.
use Rattle.std.specs.Prelude.{ℕ, suc, ℤ, pos, List, [], ◌∷◌, if◌then◌else◌, slice_get, Option, Some, None}
use Rattle.type_table.specs.TypeOf.{TypeOf, number}
use Rattle.type_table.specs.Substitution.{subst, argument}
use Rattle.lar_typed.specs.declared.op.UnaryOp.{UnaryOp}
use Rattle.lar_typed.specs.declared.op.UnaryOp.TheVariants as unary_op
use Rattle.lar_typed.specs.declared.op.BinaryOp.{BinaryOp}
use Rattle.lar_typed.specs.declared.op.BinaryOp.TheVariants as binary_op
use Rattle.lar_typed.specs.declared.tree.TypedConst.{TypedConst}
use Rattle.lar_typed.specs.Exprs.{PlainExpr, PlainExprs, label_of}
use Rattle.lar_typed.specs.Exprs as expr
use Rattle.lar_typed.specs.Stmts.{PlainStmt, PlainStmts}
use Rattle.lar_typed.specs.Stmts as stmt
use Rattle.lar_typed.specs.TreeView.{Contents}
use Rattle.mono_graph.specs.Instances.{PlainInstance, same_instance}
use Rattle.unit_input.specs.declared.expr.UnaryOp.{UnaryOp as UnitUnary}
use Rattle.unit_input.specs.declared.expr.UnaryOp.TheVariants as unit_unary
use Rattle.unit_input.specs.declared.expr.BinaryOp.{BinaryOp as UnitBinary}
use Rattle.unit_input.specs.declared.expr.BinaryOp.TheVariants as unit_binary
use Rattle.unit_input.specs.Exprs.{no_exprs, exprs, PlainExpr as UnitExpr, PlainExprs as UnitExprs}
use Rattle.unit_input.specs.Exprs as unit
use Rattle.unit_input.specs.Stmts.{no_stmts, stmts, PlainStmt as UnitStmt, PlainStmts as UnitStmts}
use Rattle.unit_input.specs.Stmts as unit_stmt
use Rattle.unit_input.specs.Widths.{cut}
use Rattle.closed_input.specs.Places.{width_under, words_before, words_to}

-- what the body of an instance stands in
pub record Setting : Type 0 where
  pub tree : Contents
  -- the list of the arguments that stand for the generics of its function
  pub arguments : TypeOf
  -- the types of its function's locals
  pub locals : List TypeOf
  -- what the calls of its unit may name, in the order of the numbers
  pub callees : List PlainInstance

-- the number of an instance: its place in the list; behind the last one where it is not there
abbrev pub number_in : List PlainInstance → PlainInstance → ℕ
number_in [] x = 0
number_in (y ∷ ys) x = if same_instance x y then 0 else suc (number_in ys x)

-- the value of a constant
abbrev pub const_value : Option TypedConst → ℤ
const_value None = pos 0
const_value (Some c) = c.value

-- the number that stands for a const generic
abbrev pub number_value : Option TypeOf → ℤ
number_value (Some (number v)) = v
number_value _ = pos 0

abbrev pub unary_of : UnaryOp → UnitUnary
unary_of unary_op.Minus = unit_unary.Neg
unary_of unary_op.Not = unit_unary.Not

abbrev pub binary_of : BinaryOp → UnitBinary
binary_of binary_op.Or = unit_binary.Or
binary_of binary_op.And = unit_binary.And
binary_of binary_op.Equal = unit_binary.Equal
binary_of binary_op.NotEqual = unit_binary.NotEqual
binary_of binary_op.Less = unit_binary.Less
binary_of binary_op.AtMost = unit_binary.AtMost
binary_of binary_op.Greater = unit_binary.Greater
binary_of binary_op.AtLeast = unit_binary.AtLeast
binary_of binary_op.Plus = unit_binary.Add
binary_of binary_op.Minus = unit_binary.Sub
binary_of binary_op.Star = unit_binary.Mul
binary_of binary_op.Slash = unit_binary.Div
binary_of binary_op.Percent = unit_binary.Rem

-- the instance that a call names
abbrev pub callee_of : Setting → ℕ → TypeOf → PlainInstance
callee_of x n gs = record { function = n; arguments = subst x.arguments gs }

abbrev mutual
  pub closed_expr : Setting → PlainExpr → UnitExpr
  closed_expr x (expr.int t v) = unit.int v
  closed_expr x (expr.truth t b) = unit.truth b
  closed_expr x (expr.local t n) = unit.local n
  closed_expr x (expr.constant t n) = unit.int (const_value (slice_get (x.tree).consts n))
  closed_expr x (expr.generic t k) = unit.int (number_value (argument x.arguments k))
  closed_expr x (expr.tuple_of t es) = unit.tuple (closed_exprs x es)
  closed_expr x (expr.made t es) = unit.tuple (closed_exprs x es)
  closed_expr x (expr.part t e k) = unit.field (closed_expr x e) (cut (words_before x.tree x.arguments (label_of e) k)) (width_under x.tree x.arguments t)
  closed_expr x (expr.unary t op e) = unit.unary (unary_of op) (closed_expr x e)
  closed_expr x (expr.binary t op a b) = unit.binary (binary_of op) (closed_expr x a) (closed_expr x b)
  closed_expr x (expr.call t n gs es at) = unit.call (number_in x.callees (callee_of x n gs)) (closed_exprs x es)

  pub closed_exprs : Setting → PlainExprs → UnitExprs
  closed_exprs x expr.no_exprs = no_exprs
  closed_exprs x (expr.exprs e es) = exprs (closed_expr x e) (closed_exprs x es)

abbrev mutual
  pub closed_stmt : Setting → PlainStmt → UnitStmt
  closed_stmt x (stmt.let_local n e) = unit_stmt.declare n (closed_expr x e)
  closed_stmt x (stmt.assign n ps e) = unit_stmt.assign n (cut (words_to x.tree x.arguments (slice_get x.locals n) ps)) (width_under x.tree x.arguments (label_of e)) (closed_expr x e)
  closed_stmt x (stmt.fork c a b) = unit_stmt.fork (closed_expr x c) (closed_stmts x a) (closed_stmts x b)
  closed_stmt x (stmt.loop c a) = unit_stmt.loop (closed_expr x c) (closed_stmts x a)
  closed_stmt x stmt.return_nothing = unit_stmt.give (unit.tuple no_exprs)
  closed_stmt x (stmt.return_value e) = unit_stmt.give (closed_expr x e)
  closed_stmt x (stmt.print e) = unit_stmt.print (closed_expr x e)
  closed_stmt x (stmt.assert e at) = unit_stmt.assert (closed_expr x e)
  closed_stmt x (stmt.eval e) = unit_stmt.eval (closed_expr x e)

  pub closed_stmts : Setting → PlainStmts → UnitStmts
  closed_stmts x stmt.no_stmts = no_stmts
  closed_stmts x (stmt.stmts s ss) = stmts (closed_stmt x s) (closed_stmts x ss)
