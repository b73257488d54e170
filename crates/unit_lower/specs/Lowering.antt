-- What the expressions and statements of a unit's input become, a row for each construct. A fold threads the number of the next fresh
-- slot: fresh slots follow those of the locals, in the order in which the expressions end.
use Rattle.std.specs.Prelude.{ℕ, zero, suc, ◌+◌, Option, Some, None, slice_index}
use Rattle.unit_input.specs.declared.expr.UnaryOp.{UnaryOp}
use Rattle.unit_input.specs.declared.expr.UnaryOp.TheVariants as unary_op
use Rattle.unit_input.specs.declared.expr.BinaryOp.{BinaryOp}
use Rattle.unit_input.specs.declared.expr.BinaryOp.TheVariants as binary_op
use Rattle.unit_input.specs.Exprs as input
use Rattle.unit_input.specs.Stmts as input_stmt
use Rattle.unit_input.specs.Widths.{Scope, width}
use Rattle.unit_ir.specs.declared.operator.Unary.{Unary}
use Rattle.unit_ir.specs.declared.operator.Unary.TheVariants as ir_unary
use Rattle.unit_ir.specs.declared.operator.Binary.TheVariants as ir_binary
use Rattle.unit_ir.specs.Operators as operators
use Rattle.unit_lower.specs.declared.operator.Operator.{Operator}
use Rattle.unit_lower.specs.declared.operator.Operator.TheVariants as operator
use Rattle.unit_ir.specs.Exprs.{PlainExpr, word, load, op1, op2, both, either, call, seq, bind, PlainExprs, no_exprs, exprs}
use Rattle.unit_ir.specs.Stmts.{PlainStmt, store, fork, loop, give, print, eval, PlainStmts, no_stmts, stmts}
use Rattle.unit_lower.specs.Slots.{first_slot, place}

-- what something becomes, and the next fresh slot after it
pub record Lowered (A : Type 0) : Type 0 where
  pub made : A
  pub next : ℕ

-- so many words that lie in slots from this one on: a load for each
abbrev pub loads : ℕ → ℕ → PlainExprs
loads slot zero = no_exprs
loads slot (suc n) = exprs (load slot) (loads (slot + 1) n)

-- the words of parts in order; a sequence of one part is that part
abbrev pub sequence : PlainExprs → PlainExpr
sequence no_exprs = seq no_exprs
sequence (exprs e no_exprs) = e
sequence (exprs e (exprs f es)) = seq (exprs e (exprs f es))

abbrev pub words : ℕ → ℕ → PlainExpr
words slot n = sequence (loads slot n)

abbrev pub unary_of : UnaryOp → Unary
unary_of unary_op.Neg = ir_unary.Neg
unary_of unary_op.Not = ir_unary.Not

-- what an operator on two words becomes
abbrev pub operator_of : BinaryOp → Operator
operator_of binary_op.Add = operator.OnWords ir_binary.Add
operator_of binary_op.Sub = operator.OnWords ir_binary.Sub
operator_of binary_op.Mul = operator.OnWords ir_binary.Mul
operator_of binary_op.Div = operator.OnWords ir_binary.Div
operator_of binary_op.Rem = operator.OnWords ir_binary.Rem
operator_of binary_op.Equal = operator.OnWords ir_binary.Equal
operator_of binary_op.NotEqual = operator.OnWords ir_binary.NotEqual
operator_of binary_op.Less = operator.OnWords ir_binary.Less
operator_of binary_op.AtMost = operator.OnWords ir_binary.AtMost
operator_of binary_op.Greater = operator.OnWords ir_binary.Greater
operator_of binary_op.AtLeast = operator.OnWords ir_binary.AtLeast
operator_of binary_op.And = operator.And
operator_of binary_op.Or = operator.Or

abbrev pub operated : Operator → PlainExpr → PlainExpr → PlainExpr
operated (operator.OnWords o) a b = op2 o a b
operated operator.And a b = both a b
operated operator.Or a b = either a b

abbrev pub binary_of : BinaryOp → PlainExpr → PlainExpr → PlainExpr
binary_of op a b = operated (operator_of op) a b

-- a value that lies in no slots is put into fresh ones, whole, and the words of its part are loaded from there
abbrev pub bound_part : ℕ → ℕ → ℕ → Lowered PlainExpr → Lowered PlainExpr
bound_part offset wide whole x = record { made = bind x.next whole x.made (words (x.next + offset) wide); next = x.next + whole }

-- a part of a value: loads from where the value lies, or else from where it is put
abbrev pub part_of : ℕ → ℕ → ℕ → Option ℕ → ℕ → Lowered PlainExpr → Lowered PlainExpr
part_of offset wide whole (Some slot) next x = record { made = words (slot + offset) wide; next = next }
part_of offset wide whole None next x = bound_part offset wide whole x

abbrev mutual
  pub lower : Scope → input.PlainExpr → ℕ → Lowered PlainExpr
  lower s (input.int v) k = record { made = word v; next = k }
  lower s (input.truth b) k = record { made = word (operators.truth b); next = k }
  lower s (input.local n) k = record { made = words (first_slot s n) (slice_index s.locals n); next = k }
  lower s (input.field e offset wide) k = part_of offset wide (width s e) (place s e) k (lower s e k)
  lower s (input.tuple es) k = record { made = sequence (lower_all s es k).made; next = (lower_all s es k).next }
  lower s (input.unary op e) k = record { made = op1 (unary_of op) (lower s e k).made; next = (lower s e k).next }
  lower s (input.binary op a b) k = record { made = binary_of op (lower s a k).made (lower s b (lower s a k).next).made; next = (lower s b (lower s a k).next).next }
  lower s (input.call f es) k = record { made = call f (lower_all s es k).made; next = (lower_all s es k).next }

  pub lower_all : Scope → input.PlainExprs → ℕ → Lowered PlainExprs
  lower_all s input.no_exprs k = record { made = no_exprs; next = k }
  lower_all s (input.exprs e es) k = record { made = exprs (lower s e k).made (lower_all s es (lower s e k).next).made; next = (lower_all s es (lower s e k).next).next }

-- an assertion is left out
abbrev pub added : Option PlainStmt → PlainStmts → PlainStmts
added None ss = ss
added (Some s) ss = stmts s ss

-- a statement of this expression
abbrev pub stmt_of : (PlainExpr → PlainStmt) → Lowered PlainExpr → Lowered (Option PlainStmt)
stmt_of make x = record { made = Some (make x.made); next = x.next }

abbrev mutual
  pub lower_stmt : Scope → input_stmt.PlainStmt → ℕ → Lowered (Option PlainStmt)
  lower_stmt s (input_stmt.declare n e) k = stmt_of (store (first_slot s n) (slice_index s.locals n)) (lower s e k)
  lower_stmt s (input_stmt.assign n offset wide e) k = stmt_of (store (first_slot s n + offset) wide) (lower s e k)
  lower_stmt s (input_stmt.fork e a b) k = record {
    made = Some (fork (lower s e k).made (lower_stmts s a (lower s e k).next).made (lower_stmts s b (lower_stmts s a (lower s e k).next).next).made);
    next = (lower_stmts s b (lower_stmts s a (lower s e k).next).next).next;
  }
  lower_stmt s (input_stmt.loop e a) k = record { made = Some (loop (lower s e k).made (lower_stmts s a (lower s e k).next).made); next = (lower_stmts s a (lower s e k).next).next }
  lower_stmt s (input_stmt.give e) k = stmt_of give (lower s e k)
  lower_stmt s (input_stmt.print e) k = stmt_of print (lower s e k)
  lower_stmt s (input_stmt.assert e) k = record { made = None; next = k }
  lower_stmt s (input_stmt.eval e) k = stmt_of (λ x. eval x (width s e)) (lower s e k)

  pub lower_stmts : Scope → input_stmt.PlainStmts → ℕ → Lowered PlainStmts
  lower_stmts s input_stmt.no_stmts k = record { made = no_stmts; next = k }
  lower_stmts s (input_stmt.stmts x xs) k = record { made = added (lower_stmt s x k).made (lower_stmts s xs (lower_stmt s x k).next).made; next = (lower_stmts s xs (lower_stmt s x k).next).next }
