-- Stores of words that are never loaded, and computations of which nothing is seen, go.
use Rattle.std.specs.Prelude.{ℕ, Bool, true, false, not, ◌&&◌, if◌then◌else◌, Option, Some, None, map}
use Rattle.unit_ir.specs.Operators.{may_trap}
use Rattle.unit_ir.specs.Exprs.{PlainExpr, word, load, op1, op2, both, either, call, seq, bind, PlainExprs, no_exprs, exprs}
use Rattle.unit_ir.specs.Stmts.{PlainStmt, store, fork, loop, give, print, eval, PlainStmts, no_stmts, stmts}
use Rattle.unit_ir.specs.Units.{PlainFn, PlainUnit}
use Rattle.opt_slots.specs.Slots.{meets}
use Rattle.opt_slots.specs.Loads.{stmts_loads}

-- whether nothing is seen of computing an expression but its words: it has no call, which may print, trap or not end, and no
-- division or remainder, which may trap
abbrev mutual
  pub quiet : PlainExpr → Bool
  quiet (word v) = true
  quiet (load s) = true
  quiet (op1 o a) = quiet a
  quiet (op2 o a b) = not (may_trap o) && (quiet a && quiet b)
  quiet (both a b) = quiet a && quiet b
  quiet (either a b) = quiet a && quiet b
  quiet (call k es) = false
  quiet (seq es) = all_quiet es
  quiet (bind s w a b) = quiet a && quiet b

  pub all_quiet : PlainExprs → Bool
  all_quiet no_exprs = true
  all_quiet (exprs e es) = quiet e && all_quiet es

-- words that are dropped are not computed where nothing is seen of it
abbrev pub dropped : PlainExpr → ℕ → Option PlainStmt
dropped e w = if quiet e then None else Some (eval e w)

-- a Store is kept where one of its slots is loaded in the function; else its words are dropped
abbrev pub stored : (ℕ → Bool) → ℕ → ℕ → PlainExpr → Option PlainStmt
stored loaded s w e = if meets loaded s w then Some (store s w e) else dropped e w

-- a statement, if it stays, before others
abbrev pub before : Option PlainStmt → PlainStmts → PlainStmts
before None others = others
before (Some s) others = stmts s others

-- under the slots that the function loads
abbrev mutual
  pub dead_stmt : (ℕ → Bool) → PlainStmt → Option PlainStmt
  dead_stmt loaded (store s w e) = stored loaded s w e
  dead_stmt loaded (fork e a b) = Some (fork e (dead_stmts loaded a) (dead_stmts loaded b))
  dead_stmt loaded (loop e a) = Some (loop e (dead_stmts loaded a))
  dead_stmt loaded (give e) = Some (give e)
  dead_stmt loaded (print e) = Some (print e)
  dead_stmt loaded (eval e w) = dropped e w

  pub dead_stmts : (ℕ → Bool) → PlainStmts → PlainStmts
  dead_stmts loaded no_stmts = no_stmts
  dead_stmts loaded (stmts s ss) = before (dead_stmt loaded s) (dead_stmts loaded ss)

-- loads are counted before anything goes
abbrev pub dead_fn : PlainFn → PlainFn
dead_fn f = record f { body = dead_stmts (stmts_loads f.body) f.body }

abbrev pub dead_unit : PlainUnit → PlainUnit
dead_unit u = record u { functions = map dead_fn u.functions }
