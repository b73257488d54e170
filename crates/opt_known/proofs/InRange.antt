-- What is walked names no slot and no call that was not named before: a fact names a slot that the body named.
use Rattle.std.proofs.Common.{ℕ, ◌<◌, ◌==◌, Bool, true, false, if◌then◌else◌, refl}
use Rattle.unit_ir.specs.Exprs.{PlainExpr, word, load, op1, op2, both, either, call, seq, bind, PlainExprs, no_exprs, exprs}
use Rattle.unit_ir.specs.Stmts.{PlainStmt, store, fork, loop, give, print, eval, PlainStmts, no_stmts, stmts}
use Rattle.unit_ir.specs.InRange.{ExprInRange, ExprsInRange, StmtInRange, StmtsInRange}
use Rattle.unit_ir.specs.Units.{PlainFn, PlainUnit, IsFn, IsUnit}
use Rattle.opt_slots.specs.Slots.{span, also}
use Rattle.opt_slots.specs.Writes.{expr_writes, stmts_writes}
use Rattle.opt_slots.proofs.Kept.{IsUnit-map}
use Rattle.opt_known.specs.Facts.{PlainFact, nothing, is_word, is_load, nothing_known, unless_named, forget, with_fact, learn, in_place}
use Rattle.opt_known.specs.Known.{known_expr, known_exprs, after_store, at_loop, after_stmt, known_stmt, known_stmts, known_fn, known_unit}

-- a fact that names a slot names one below this number
abbrev pub FactInRange : ℕ → PlainFact → Type 0
FactInRange n nothing = Unit {0}
FactInRange n (is_word v) = Unit {0}
FactInRange n (is_load t) = t < n

abbrev pub FactsInRange : ℕ → (ℕ → PlainFact) → Type 0
FactsInRange n facts = (s : ℕ) → FactInRange n (facts s)

chosen : (n : ℕ) (c : Bool) (f g : PlainFact) → FactInRange n f → FactInRange n g → FactInRange n (if c then f else g)
chosen n true f g hf hg = hf
chosen n false f g hf hg = hg

unless_named-in_range : (n : ℕ) (gone : ℕ → Bool) (f : PlainFact) → FactInRange n f → FactInRange n (unless_named gone f)
unless_named-in_range n gone nothing h = tt
unless_named-in_range n gone (is_word v) h = tt
unless_named-in_range n gone (is_load t) h = chosen n (gone t) nothing (is_load t) tt h

forget-in_range : (n : ℕ) (gone : ℕ → Bool) (facts : ℕ → PlainFact) → FactsInRange n facts → FactsInRange n (forget gone facts)
unfolding forget
forget-in_range n gone facts h s = chosen n (gone s) nothing (unless_named gone (facts s)) tt (unless_named-in_range n gone (facts s) (h s))

with_fact-in_range : (n s : ℕ) (f : PlainFact) (facts : ℕ → PlainFact) → FactInRange n f → FactsInRange n facts → FactsInRange n (with_fact s f facts)
unfolding with_fact
with_fact-in_range n s f facts hf h k = chosen n (k == s) f (facts k) hf (h k)

these : (n : ℕ) (c : Bool) (f g : ℕ → PlainFact) → FactsInRange n f → FactsInRange n g → FactsInRange n (if c then f else g)
these n true f g hf hg = hf
these n false f g hf hg = hg

learn-in_range : (n k s : ℕ) (e : PlainExpr) (facts : ℕ → PlainFact) → ExprInRange n k e → FactsInRange n facts → FactsInRange n (learn s e facts)
learn-in_range n k s (word v) facts he h = with_fact-in_range n s (is_word v) facts tt h
learn-in_range n k s (load t) facts he h = these n (t == s) facts (with_fact s (is_load t) facts) h (with_fact-in_range n s (is_load t) facts he h)
learn-in_range n k s (op1 o a) facts he h = h
learn-in_range n k s (op2 o a b) facts he h = h
learn-in_range n k s (both a b) facts he h = h
learn-in_range n k s (either a b) facts he h = h
learn-in_range n k s (call f es) facts he h = h
learn-in_range n k s (seq es) facts he h = h
learn-in_range n k s (bind t w a b) facts he h = h

in_place-in_range : (n k s : ℕ) (f : PlainFact) → s < n → FactInRange n f → ExprInRange n k (in_place s f)
in_place-in_range n k s nothing hs h = hs
in_place-in_range n k s (is_word v) hs h = tt
in_place-in_range n k s (is_load t) hs h = h

mutual
  known_expr-in_range : (n k : ℕ) (facts : ℕ → PlainFact) (e : PlainExpr) → FactsInRange n facts → ExprInRange n k e → ExprInRange n k (known_expr facts e)
  known_expr-in_range n k facts (word v) hf h = tt
  known_expr-in_range n k facts (load s) hf h = in_place-in_range n k s (facts s) h (hf s)
  known_expr-in_range n k facts (op1 o a) hf h = known_expr-in_range n k facts a hf h
  known_expr-in_range n k facts (op2 o a b) hf h = (known_expr-in_range n k facts a hf h.0, known_expr-in_range n k (forget (expr_writes a) facts) b (forget-in_range n (expr_writes a) facts hf) h.1)
  known_expr-in_range n k facts (both a b) hf h = (known_expr-in_range n k facts a hf h.0, known_expr-in_range n k (forget (expr_writes a) facts) b (forget-in_range n (expr_writes a) facts hf) h.1)
  known_expr-in_range n k facts (either a b) hf h = (known_expr-in_range n k facts a hf h.0, known_expr-in_range n k (forget (expr_writes a) facts) b (forget-in_range n (expr_writes a) facts hf) h.1)
  known_expr-in_range n k facts (call f es) hf h = (h.0, known_exprs-in_range n k facts es hf h.1)
  known_expr-in_range n k facts (seq es) hf h = known_exprs-in_range n k facts es hf h
  known_expr-in_range n k facts (bind s w a b) hf h = (
    h.0,
    known_expr-in_range n k facts a hf h.1,
    known_expr-in_range n k (forget (span s w) (forget (expr_writes a) facts)) b (forget-in_range n (span s w) (forget (expr_writes a) facts) (forget-in_range n (expr_writes a) facts hf)) h.2,
  )

  known_exprs-in_range : (n k : ℕ) (facts : ℕ → PlainFact) (es : PlainExprs) → FactsInRange n facts → ExprsInRange n k es → ExprsInRange n k (known_exprs facts es)
  known_exprs-in_range n k facts no_exprs hf h = tt
  known_exprs-in_range n k facts (exprs e es) hf h = (known_expr-in_range n k facts e hf h.0, known_exprs-in_range n k (forget (expr_writes e) facts) es (forget-in_range n (expr_writes e) facts hf) h.1)

at_loop-in_range : (n : ℕ) (facts : ℕ → PlainFact) (e : PlainExpr) (a : PlainStmts) → FactsInRange n facts → FactsInRange n (at_loop facts e a)
at_loop-in_range n facts e a h = forget-in_range n (also (expr_writes e) (stmts_writes a)) facts h

after_store-in_range : (n k : ℕ) (facts : ℕ → PlainFact) (s w : ℕ) (e : PlainExpr) → FactsInRange n facts → ExprInRange n k e → FactsInRange n (after_store facts s w e)
after_store-in_range n k facts s w e hf h =
    let here : ℕ → PlainFact = forget (span s w) (forget (expr_writes e) facts) in
    let kept : FactsInRange n here = forget-in_range n (span s w) (forget (expr_writes e) facts) (forget-in_range n (expr_writes e) facts hf) in
    these n (w == 1) (learn s (known_expr facts e) here) here (learn-in_range n k s (known_expr facts e) here (known_expr-in_range n k facts e hf h) kept) kept

after_stmt-in_range : (n k : ℕ) (facts : ℕ → PlainFact) (s : PlainStmt) → FactsInRange n facts → StmtInRange n k s → FactsInRange n (after_stmt facts s)
after_stmt-in_range n k facts (store s w e) hf h = after_store-in_range n k facts s w e hf h.1
after_stmt-in_range n k facts (fork e a b) hf h =
    forget-in_range n (also (stmts_writes a) (stmts_writes b)) (forget (expr_writes e) facts) (forget-in_range n (expr_writes e) facts hf)
after_stmt-in_range n k facts (loop e a) hf h = at_loop-in_range n facts e a hf
after_stmt-in_range n k facts (give e) hf h = forget-in_range n (expr_writes e) facts hf
after_stmt-in_range n k facts (print e) hf h = forget-in_range n (expr_writes e) facts hf
after_stmt-in_range n k facts (eval e w) hf h = forget-in_range n (expr_writes e) facts hf

mutual
  known_stmt-in_range : (n k : ℕ) (facts : ℕ → PlainFact) (s : PlainStmt) → FactsInRange n facts → StmtInRange n k s → StmtInRange n k (known_stmt facts s)
  known_stmt-in_range n k facts (store s w e) hf h = (h.0, known_expr-in_range n k facts e hf h.1)
  known_stmt-in_range n k facts (fork e a b) hf h =
      let kept : FactsInRange n (forget (expr_writes e) facts) = forget-in_range n (expr_writes e) facts hf in
      (known_expr-in_range n k facts e hf h.0, known_stmts-in_range n k (forget (expr_writes e) facts) a kept h.1, known_stmts-in_range n k (forget (expr_writes e) facts) b kept h.2)
  known_stmt-in_range n k facts (loop e a) hf h =
      let kept : FactsInRange n (at_loop facts e a) = at_loop-in_range n facts e a hf in
      (known_expr-in_range n k (at_loop facts e a) e kept h.0, known_stmts-in_range n k (forget (expr_writes e) (at_loop facts e a)) a (forget-in_range n (expr_writes e) (at_loop facts e a) kept) h.1)
  known_stmt-in_range n k facts (give e) hf h = known_expr-in_range n k facts e hf h
  known_stmt-in_range n k facts (print e) hf h = known_expr-in_range n k facts e hf h
  known_stmt-in_range n k facts (eval e w) hf h = known_expr-in_range n k facts e hf h

  pub known_stmts-in_range : (n k : ℕ) (facts : ℕ → PlainFact) (ss : PlainStmts) → FactsInRange n facts → StmtsInRange n k ss → StmtsInRange n k (known_stmts facts ss)
  known_stmts-in_range n k facts no_stmts hf h = tt
  known_stmts-in_range n k facts (stmts s ss) hf h = (known_stmt-in_range n k facts s hf h.0, known_stmts-in_range n k (after_stmt facts s) ss (after_stmt-in_range n k facts s hf h.0) h.1)

nothing-in_range : (n : ℕ) → FactsInRange n nothing_known
unfolding nothing_known
nothing-in_range n s = tt

known_fn-kept : (k : ℕ) (f : PlainFn) → IsFn k f → IsFn k (known_fn f)
known_fn-kept k f h = record { symbol = h.symbol; slots = h.slots; params = h.params; body = known_stmts-in_range f.slots k nothing_known f.body (nothing-in_range f.slots) h.body }

pub known_unit-kept : (u : PlainUnit) → IsUnit u → IsUnit (known_unit u)
known_unit-kept u h = IsUnit-map known_fn (λ f. refl) known_fn-kept u h
