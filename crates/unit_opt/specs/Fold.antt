-- Constants folded, inner expressions first, and what a constant test decides.
use Rattle.std.specs.Prelude.{ℤ, pos, if◌then◌else◌, Option, Some, None, map}
use Rattle.std.specs.Ordering.{int_eq}
use Rattle.unit_ir.specs.declared.operator.Unary.{Unary}
use Rattle.unit_ir.specs.declared.operator.Binary.{Binary}
use Rattle.unit_ir.specs.Operators.{unary_of, binary_of}
use Rattle.unit_ir.specs.Exprs.{PlainExpr, word, load, op1, op2, both, either, call, seq, bind, PlainExprs, no_exprs, exprs}
use Rattle.unit_ir.specs.Stmts.{PlainStmt, store, fork, loop, give, print, eval, PlainStmts, no_stmts, stmts}
use Rattle.unit_ir.specs.Units.{PlainFn, PlainUnit}
use Rattle.unit_opt.specs.Lists.{joined, until_return}

-- the number that an expression is
abbrev pub number_of : PlainExpr → Option ℤ
number_of (word v) = Some v
number_of e = None

abbrev pub word_or : PlainExpr → Option ℤ → PlainExpr
word_or e None = e
word_or e (Some v) = word v

-- an operator on constants is its result
abbrev pub folded1 : Unary → PlainExpr → Option ℤ → PlainExpr
folded1 o a None = op1 o a
folded1 o a (Some v) = word (unary_of o v)

-- .. where it does not trap
abbrev pub folded2 : Binary → PlainExpr → PlainExpr → Option ℤ → Option ℤ → PlainExpr
folded2 o a b (Some x) (Some y) = word_or (op2 o a b) (binary_of o x y)
folded2 o a b x y = op2 o a b

-- a constant that is neither 0 nor 1 decides nothing here, since its value is not that of a test
abbrev pub folded_and : PlainExpr → PlainExpr → Option ℤ → PlainExpr
folded_and a b None = both a b
folded_and a b (Some v) = if int_eq v (pos 0) then word (pos 0) else (if int_eq v (pos 1) then b else both a b)

abbrev pub folded_or : PlainExpr → PlainExpr → Option ℤ → PlainExpr
folded_or a b None = either a b
folded_or a b (Some v) = if int_eq v (pos 1) then word (pos 1) else (if int_eq v (pos 0) then b else either a b)

abbrev mutual
  pub fold_expr : PlainExpr → PlainExpr
  fold_expr (word v) = word v
  fold_expr (load s) = load s
  fold_expr (op1 o a) = folded1 o (fold_expr a) (number_of (fold_expr a))
  fold_expr (op2 o a b) = folded2 o (fold_expr a) (fold_expr b) (number_of (fold_expr a)) (number_of (fold_expr b))
  fold_expr (both a b) = folded_and (fold_expr a) (fold_expr b) (number_of (fold_expr a))
  fold_expr (either a b) = folded_or (fold_expr a) (fold_expr b) (number_of (fold_expr a))
  fold_expr (call k es) = call k (fold_exprs es)
  fold_expr (seq es) = seq (fold_exprs es)
  fold_expr (bind s w a b) = bind s w (fold_expr a) (fold_expr b)

  pub fold_exprs : PlainExprs → PlainExprs
  fold_exprs no_exprs = no_exprs
  fold_exprs (exprs e es) = exprs (fold_expr e) (fold_exprs es)

-- an If on a constant becomes the statements of the branch that it takes: the second at 0, else the first
abbrev pub folded_fork : PlainExpr → PlainStmts → PlainStmts → Option ℤ → PlainStmts
folded_fork e a b None = stmts (fork e (until_return a) (until_return b)) no_stmts
folded_fork e a b (Some v) = if int_eq v (pos 0) then b else a

-- a loop on 0 goes
abbrev pub folded_loop : PlainExpr → PlainStmts → Option ℤ → PlainStmts
folded_loop e a None = stmts (loop e (until_return a)) no_stmts
folded_loop e a (Some v) = if int_eq v (pos 0) then no_stmts else stmts (loop e (until_return a)) no_stmts

abbrev mutual
  -- the statements that one statement becomes
  pub fold_stmt : PlainStmt → PlainStmts
  fold_stmt (store s w e) = stmts (store s w (fold_expr e)) no_stmts
  fold_stmt (fork e a b) = folded_fork (fold_expr e) (fold_each a) (fold_each b) (number_of (fold_expr e))
  fold_stmt (loop e a) = folded_loop (fold_expr e) (fold_each a) (number_of (fold_expr e))
  fold_stmt (give e) = stmts (give (fold_expr e)) no_stmts
  fold_stmt (print e) = stmts (print (fold_expr e)) no_stmts
  fold_stmt (eval e w) = stmts (eval (fold_expr e) w) no_stmts

  -- the list so made, of which nothing is left out yet
  pub fold_each : PlainStmts → PlainStmts
  fold_each no_stmts = no_stmts
  fold_each (stmts s ss) = joined (fold_stmt s) (fold_each ss)

-- in the list so made, what stands after its first Return goes
abbrev pub fold_stmts : PlainStmts → PlainStmts
fold_stmts ss = until_return (fold_each ss)

abbrev pub fold_fn : PlainFn → PlainFn
fold_fn f = record f { body = fold_stmts f.body }

abbrev pub fold_unit : PlainUnit → PlainUnit
fold_unit u = record u { functions = map fold_fn u.functions }
