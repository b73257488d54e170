-- Loads of slots whose word is known, replaced. A body is walked in its order, with what is known at each place.
use Rattle.std.specs.Prelude.{ℕ, ◌==◌, if◌then◌else◌, map}
use Rattle.unit_ir.specs.Exprs.{PlainExpr, word, load, op1, op2, both, either, call, seq, bind, PlainExprs, no_exprs, exprs}
use Rattle.unit_ir.specs.Stmts.{PlainStmt, store, fork, loop, give, print, eval, PlainStmts, no_stmts, stmts}
use Rattle.unit_ir.specs.Units.{PlainFn, PlainUnit}
use Rattle.opt_slots.specs.Slots.{span, also}
use Rattle.opt_slots.specs.Writes.{expr_writes, stmts_writes}
use Rattle.opt_known.specs.Facts.{PlainFact, nothing_known, forget, learn, in_place}

-- behind an expression, what it put words into by Binds is forgotten, and nothing is learned; the rest of a Bind is walked behind
-- its value and its slots
abbrev mutual
  pub known_expr : (ℕ → PlainFact) → PlainExpr → PlainExpr
  known_expr facts (word v) = word v
  known_expr facts (load s) = in_place s (facts s)
  known_expr facts (op1 o a) = op1 o (known_expr facts a)
  known_expr facts (op2 o a b) = op2 o (known_expr facts a) (known_expr (forget (expr_writes a) facts) b)
  known_expr facts (both a b) = both (known_expr facts a) (known_expr (forget (expr_writes a) facts) b)
  known_expr facts (either a b) = either (known_expr facts a) (known_expr (forget (expr_writes a) facts) b)
  known_expr facts (call k es) = call k (known_exprs facts es)
  known_expr facts (seq es) = seq (known_exprs facts es)
  known_expr facts (bind s w a b) = bind s w (known_expr facts a) (known_expr (forget (span s w) (forget (expr_writes a) facts)) b)

  pub known_exprs : (ℕ → PlainFact) → PlainExprs → PlainExprs
  known_exprs facts no_exprs = no_exprs
  known_exprs facts (exprs e es) = exprs (known_expr facts e) (known_exprs (forget (expr_writes e) facts) es)

-- behind a Store: a Store of one word learns from its value as it stands after the walk
abbrev pub after_store : (ℕ → PlainFact) → ℕ → ℕ → PlainExpr → ℕ → PlainFact
after_store facts s w e =
    if w == 1 then learn s (known_expr facts e) (forget (span s w) (forget (expr_writes e) facts)) else forget (span s w) (forget (expr_writes e) facts)

-- before a loop, what its condition or its body puts words into is forgotten
abbrev pub at_loop : (ℕ → PlainFact) → PlainExpr → PlainStmts → ℕ → PlainFact
at_loop facts e a = forget (also (expr_writes e) (stmts_writes a)) facts

-- what is known behind a statement: of what was known behind the condition of an If, what neither branch puts words into; of what
-- was known before a loop, what it does not put words into
abbrev pub after_stmt : (ℕ → PlainFact) → PlainStmt → ℕ → PlainFact
after_stmt facts (store s w e) = after_store facts s w e
after_stmt facts (fork e a b) = forget (also (stmts_writes a) (stmts_writes b)) (forget (expr_writes e) facts)
after_stmt facts (loop e a) = at_loop facts e a
after_stmt facts (give e) = forget (expr_writes e) facts
after_stmt facts (print e) = forget (expr_writes e) facts
after_stmt facts (eval e w) = forget (expr_writes e) facts

abbrev mutual
  pub known_stmt : (ℕ → PlainFact) → PlainStmt → PlainStmt
  known_stmt facts (store s w e) = store s w (known_expr facts e)
  known_stmt facts (fork e a b) = fork (known_expr facts e) (known_stmts (forget (expr_writes e) facts) a) (known_stmts (forget (expr_writes e) facts) b)
  known_stmt facts (loop e a) = loop (known_expr (at_loop facts e a) e) (known_stmts (forget (expr_writes e) (at_loop facts e a)) a)
  known_stmt facts (give e) = give (known_expr facts e)
  known_stmt facts (print e) = print (known_expr facts e)
  known_stmt facts (eval e w) = eval (known_expr facts e) w

  pub known_stmts : (ℕ → PlainFact) → PlainStmts → PlainStmts
  known_stmts facts no_stmts = no_stmts
  known_stmts facts (stmts s ss) = stmts (known_stmt facts s) (known_stmts (after_stmt facts s) ss)

abbrev pub known_fn : PlainFn → PlainFn
known_fn f = record f { body = known_stmts nothing_known f.body }

abbrev pub known_unit : PlainUnit → PlainUnit
known_unit u = record u { functions = map known_fn u.functions }
