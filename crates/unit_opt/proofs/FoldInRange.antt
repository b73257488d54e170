-- What is folded names no slot and no call that was not named before.
use Rattle.std.proofs.Common.{ℕ, ℤ, pos, Bool, true, false, if◌then◌else◌, Option, Some, None}
use Rattle.std.specs.Ordering.{int_eq}
use Rattle.unit_ir.specs.declared.operator.Unary.{Unary}
use Rattle.unit_ir.specs.declared.operator.Binary.{Binary}
use Rattle.unit_ir.specs.Operators.{binary_of}
use Rattle.unit_ir.specs.Exprs.{PlainExpr, word, load, op1, op2, both, either, call, seq, bind, PlainExprs, no_exprs, exprs}
use Rattle.unit_ir.specs.Stmts.{PlainStmt, store, fork, loop, give, print, eval, PlainStmts, no_stmts, stmts}
use Rattle.unit_ir.specs.InRange.{ExprInRange, ExprsInRange, StmtInRange, StmtsInRange}
use Rattle.unit_opt.specs.Lists.{joined, ahead, until_return}
use Rattle.unit_opt.specs.Fold.{number_of, word_or, folded1, folded2, folded_and, folded_or, fold_expr, fold_exprs, folded_fork, folded_loop, fold_stmt, fold_each, fold_stmts}

chosen : (n k : ℕ) (c : Bool) (x y : PlainExpr) → ExprInRange n k x → ExprInRange n k y → ExprInRange n k (if c then x else y)
chosen n k true x y hx hy = hx
chosen n k false x y hx hy = hy

one_folded : (n k : ℕ) (o : Unary) (a : PlainExpr) (u : Option ℤ) → ExprInRange n k a → ExprInRange n k (folded1 o a u)
one_folded n k o a None h = h
one_folded n k o a (Some v) h = tt

a_word_or : (n k : ℕ) (e : PlainExpr) (u : Option ℤ) → ExprInRange n k e → ExprInRange n k (word_or e u)
a_word_or n k e None h = h
a_word_or n k e (Some v) h = tt

two_folded : (n k : ℕ) (o : Binary) (a b : PlainExpr) (u v : Option ℤ) → ExprInRange n k a × ExprInRange n k b → ExprInRange n k (folded2 o a b u v)
two_folded n k o a b None None h = h
two_folded n k o a b None (Some y) h = h
two_folded n k o a b (Some x) None h = h
two_folded n k o a b (Some x) (Some y) h = a_word_or n k (op2 o a b) (binary_of o x y) h

and_folded : (n k : ℕ) (a b : PlainExpr) (u : Option ℤ) → ExprInRange n k a × ExprInRange n k b → ExprInRange n k (folded_and a b u)
and_folded n k a b None h = h
and_folded n k a b (Some v) h =
    chosen n k (int_eq v (pos 0)) (word (pos 0)) (if int_eq v (pos 1) then b else both a b) tt (chosen n k (int_eq v (pos 1)) b (both a b) h.1 h)

or_folded : (n k : ℕ) (a b : PlainExpr) (u : Option ℤ) → ExprInRange n k a × ExprInRange n k b → ExprInRange n k (folded_or a b u)
or_folded n k a b None h = h
or_folded n k a b (Some v) h =
    chosen n k (int_eq v (pos 1)) (word (pos 1)) (if int_eq v (pos 0) then b else either a b) tt (chosen n k (int_eq v (pos 0)) b (either a b) h.1 h)

mutual
  pub fold_expr-in_range : (n k : ℕ) (e : PlainExpr) → ExprInRange n k e → ExprInRange n k (fold_expr e)
  fold_expr-in_range n k (word v) h = h
  fold_expr-in_range n k (load s) h = h
  fold_expr-in_range n k (op1 o a) h = one_folded n k o (fold_expr a) (number_of (fold_expr a)) (fold_expr-in_range n k a h)
  fold_expr-in_range n k (op2 o a b) h = two_folded n k o (fold_expr a) (fold_expr b) (number_of (fold_expr a)) (number_of (fold_expr b)) (fold_expr-in_range n k a h.0, fold_expr-in_range n k b h.1)
  fold_expr-in_range n k (both a b) h = and_folded n k (fold_expr a) (fold_expr b) (number_of (fold_expr a)) (fold_expr-in_range n k a h.0, fold_expr-in_range n k b h.1)
  fold_expr-in_range n k (either a b) h = or_folded n k (fold_expr a) (fold_expr b) (number_of (fold_expr a)) (fold_expr-in_range n k a h.0, fold_expr-in_range n k b h.1)
  fold_expr-in_range n k (call f es) h = (h.0, fold_exprs-in_range n k es h.1)
  fold_expr-in_range n k (seq es) h = fold_exprs-in_range n k es h
  fold_expr-in_range n k (bind s w a b) h = (h.0, fold_expr-in_range n k a h.1, fold_expr-in_range n k b h.2)

  pub fold_exprs-in_range : (n k : ℕ) (es : PlainExprs) → ExprsInRange n k es → ExprsInRange n k (fold_exprs es)
  fold_exprs-in_range n k no_exprs h = tt
  fold_exprs-in_range n k (exprs e es) h = (fold_expr-in_range n k e h.0, fold_exprs-in_range n k es h.1)

pub joined-in_range : (n k : ℕ) (xs ys : PlainStmts) → StmtsInRange n k xs → StmtsInRange n k ys → StmtsInRange n k (joined xs ys)
joined-in_range n k no_stmts ys hx hy = hy
joined-in_range n k (stmts s ss) ys hx hy = (hx.0, joined-in_range n k ss ys hx.1 hy)

pub ahead-in_range : (n k : ℕ) (xs ys : PlainStmts) → StmtsInRange n k xs → StmtsInRange n k ys → StmtsInRange n k (ahead xs ys)
ahead-in_range n k no_stmts ys h hy = hy
ahead-in_range n k (stmts (store s w e) ss) ys h hy = (h.0, ahead-in_range n k ss ys h.1 hy)
ahead-in_range n k (stmts (fork e a b) ss) ys h hy = (h.0, ahead-in_range n k ss ys h.1 hy)
ahead-in_range n k (stmts (loop e a) ss) ys h hy = (h.0, ahead-in_range n k ss ys h.1 hy)
ahead-in_range n k (stmts (give e) ss) ys h hy = (h.0, tt)
ahead-in_range n k (stmts (print e) ss) ys h hy = (h.0, ahead-in_range n k ss ys h.1 hy)
ahead-in_range n k (stmts (eval e w) ss) ys h hy = (h.0, ahead-in_range n k ss ys h.1 hy)

cut : (n k : ℕ) (ss : PlainStmts) → StmtsInRange n k ss → StmtsInRange n k (until_return ss)
cut n k ss h = ahead-in_range n k ss no_stmts h tt

these : (n k : ℕ) (c : Bool) (xs ys : PlainStmts) → StmtsInRange n k xs → StmtsInRange n k ys → StmtsInRange n k (if c then xs else ys)
these n k true xs ys hx hy = hx
these n k false xs ys hx hy = hy

fork_folded : (n k : ℕ) (e : PlainExpr) (a b : PlainStmts) (u : Option ℤ) → ExprInRange n k e × StmtsInRange n k a × StmtsInRange n k b → StmtsInRange n k (folded_fork e a b u)
fork_folded n k e a b None h = ((h.0, cut n k a h.1, cut n k b h.2), tt)
fork_folded n k e a b (Some v) h = these n k (int_eq v (pos 0)) b a h.2 h.1

loop_folded : (n k : ℕ) (e : PlainExpr) (a : PlainStmts) (u : Option ℤ) → ExprInRange n k e × StmtsInRange n k a → StmtsInRange n k (folded_loop e a u)
loop_folded n k e a None h = ((h.0, cut n k a h.1), tt)
loop_folded n k e a (Some v) h = these n k (int_eq v (pos 0)) no_stmts (stmts (loop e (until_return a)) no_stmts) tt ((h.0, cut n k a h.1), tt)

mutual
  pub fold_stmt-in_range : (n k : ℕ) (s : PlainStmt) → StmtInRange n k s → StmtsInRange n k (fold_stmt s)
  fold_stmt-in_range n k (store s w e) h = ((h.0, fold_expr-in_range n k e h.1), tt)
  fold_stmt-in_range n k (fork e a b) h =
      fork_folded n k (fold_expr e) (fold_each a) (fold_each b) (number_of (fold_expr e)) (fold_expr-in_range n k e h.0, fold_each-in_range n k a h.1, fold_each-in_range n k b h.2)
  fold_stmt-in_range n k (loop e a) h = loop_folded n k (fold_expr e) (fold_each a) (number_of (fold_expr e)) (fold_expr-in_range n k e h.0, fold_each-in_range n k a h.1)
  fold_stmt-in_range n k (give e) h = (fold_expr-in_range n k e h, tt)
  fold_stmt-in_range n k (print e) h = (fold_expr-in_range n k e h, tt)
  fold_stmt-in_range n k (eval e w) h = (fold_expr-in_range n k e h, tt)

  pub fold_each-in_range : (n k : ℕ) (ss : PlainStmts) → StmtsInRange n k ss → StmtsInRange n k (fold_each ss)
  fold_each-in_range n k no_stmts h = tt
  fold_each-in_range n k (stmts s ss) h = joined-in_range n k (fold_stmt s) (fold_each ss) (fold_stmt-in_range n k s h.0) (fold_each-in_range n k ss h.1)

pub fold_stmts-in_range : (n k : ℕ) (ss : PlainStmts) → StmtsInRange n k ss → StmtsInRange n k (fold_stmts ss)
fold_stmts-in_range n k ss h = cut n k (fold_each ss) (fold_each-in_range n k ss h)
