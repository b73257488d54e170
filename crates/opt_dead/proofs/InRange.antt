-- What is left names no slot and no call that was not named before.
use Rattle.std.proofs.Common.{ℕ, Bool, true, false, if◌then◌else◌, Option, Some, None, refl}
use Rattle.unit_ir.specs.Exprs.{PlainExpr}
use Rattle.unit_ir.specs.Stmts.{PlainStmt, store, fork, loop, give, print, eval, PlainStmts, no_stmts, stmts}
use Rattle.unit_ir.specs.InRange.{ExprInRange, StmtInRange, StmtsInRange}
use Rattle.unit_ir.specs.Units.{PlainFn, PlainUnit, IsFn, IsUnit}
use Rattle.opt_slots.specs.Slots.{meets}
use Rattle.opt_slots.specs.Loads.{stmts_loads}
use Rattle.opt_slots.proofs.Kept.{IsUnit-map}
use Rattle.opt_dead.specs.Dead.{quiet, dropped, before, dead_stmt, dead_stmts, dead_fn, dead_unit}

-- of a statement that stays
abbrev pub StaysInRange : ℕ → ℕ → Option PlainStmt → Type 0
StaysInRange n k None = Unit {0}
StaysInRange n k (Some s) = StmtInRange n k s

chosen : (n k : ℕ) (c : Bool) (x y : Option PlainStmt) → StaysInRange n k x → StaysInRange n k y → StaysInRange n k (if c then x else y)
chosen n k true x y hx hy = hx
chosen n k false x y hx hy = hy

dropped-in_range : (n k : ℕ) (e : PlainExpr) (w : ℕ) → ExprInRange n k e → StaysInRange n k (dropped e w)
dropped-in_range n k e w h = chosen n k (quiet e) None (Some (eval e w)) tt h

before-in_range : (n k : ℕ) (s : Option PlainStmt) (ss : PlainStmts) → StaysInRange n k s → StmtsInRange n k ss → StmtsInRange n k (before s ss)
before-in_range n k None ss h hs = hs
before-in_range n k (Some s) ss h hs = (h, hs)

mutual
  dead_stmt-in_range : (l : ℕ → Bool) (n k : ℕ) (s : PlainStmt) → StmtInRange n k s → StaysInRange n k (dead_stmt l s)
  dead_stmt-in_range l n k (store s w e) h = chosen n k (meets l s w) (Some (store s w e)) (dropped e w) h (dropped-in_range n k e w h.1)
  dead_stmt-in_range l n k (fork e a b) h = (h.0, dead_stmts-in_range l n k a h.1, dead_stmts-in_range l n k b h.2)
  dead_stmt-in_range l n k (loop e a) h = (h.0, dead_stmts-in_range l n k a h.1)
  dead_stmt-in_range l n k (give e) h = h
  dead_stmt-in_range l n k (print e) h = h
  dead_stmt-in_range l n k (eval e w) h = dropped-in_range n k e w h

  pub dead_stmts-in_range : (l : ℕ → Bool) (n k : ℕ) (ss : PlainStmts) → StmtsInRange n k ss → StmtsInRange n k (dead_stmts l ss)
  dead_stmts-in_range l n k no_stmts h = tt
  dead_stmts-in_range l n k (stmts s ss) h = before-in_range n k (dead_stmt l s) (dead_stmts l ss) (dead_stmt-in_range l n k s h.0) (dead_stmts-in_range l n k ss h.1)

dead_fn-kept : (k : ℕ) (f : PlainFn) → IsFn k f → IsFn k (dead_fn f)
dead_fn-kept k f h = record { symbol = h.symbol; slots = h.slots; params = h.params; body = dead_stmts-in_range (stmts_loads f.body) f.slots k f.body h.body }

pub dead_unit-kept : (u : PlainUnit) → IsUnit u → IsUnit (dead_unit u)
dead_unit-kept u h = IsUnit-map dead_fn (λ f. refl) dead_fn-kept u h
