-- Calls of small functions, replaced by what the functions give. The calls of a body are taken in the order in which they would be
-- done: the arguments of a call from the first to the last, then the call; a statement after those before it; the condition of an If
-- or a loop, then its lists.
use Rattle.std.specs.Prelude.{ℕ, zero, suc, ◌+◌, ◌&&◌, not, Bool, true, false, if◌then◌else◌, Option, Some, None, List, [], ◌∷◌, map}
use lib.Dec.{leb}
use Rattle.unit_ir.specs.Exprs.{PlainExpr, word, load, op1, op2, both, either, call, seq, bind, PlainExprs, no_exprs, exprs}
use Rattle.unit_ir.specs.Stmts.{PlainStmt, store, fork, loop, give, print, eval, PlainStmts, no_stmts, stmts}
use Rattle.unit_ir.specs.Units.{PlainFn, PlainUnit}

-- whether an expression has no call
abbrev mutual
  pub calls_nothing : PlainExpr → Bool
  calls_nothing (word v) = true
  calls_nothing (load s) = true
  calls_nothing (op1 o a) = calls_nothing a
  calls_nothing (op2 o a b) = calls_nothing a && calls_nothing b
  calls_nothing (both a b) = calls_nothing a && calls_nothing b
  calls_nothing (either a b) = calls_nothing a && calls_nothing b
  calls_nothing (call k es) = false
  calls_nothing (seq es) = call_nothing es
  calls_nothing (bind s w a b) = calls_nothing a && calls_nothing b

  pub call_nothing : PlainExprs → Bool
  call_nothing no_exprs = true
  call_nothing (exprs e es) = calls_nothing e && call_nothing es

-- the one expression that a body gives, if it does nothing else
abbrev pub given : PlainStmts → Option PlainExpr
given (stmts (give e) no_stmts) = Some e
given ss = None

-- what is needed of a function to put it in the place of its calls
pub record PlainSmall : Type 0 where
  pub params : ℕ
  pub slots : ℕ
  pub gives : PlainExpr

abbrev pub small_if : PlainFn → Bool → PlainExpr → Option PlainSmall
small_if f true e = Some (record { params = f.params; slots = f.slots; gives = e })
small_if f false e = None

abbrev pub small_giving : PlainFn → Option PlainExpr → Option PlainSmall
small_giving f None = None
small_giving f (Some e) = small_if f (not f.external && calls_nothing e) e

-- an internal function is small where its body gives one expression, without a call, and does nothing else
abbrev pub small : PlainFn → Option PlainSmall
small f = small_giving f (given f.body)

-- the function of a call's number, if it is one of these and small
abbrev pub callee : List (Option PlainSmall) → ℕ → Option PlainSmall
callee [] k = None
callee (s ∷ ss) zero = s
callee (s ∷ ss) (suc k) = callee ss k

-- every slot raised
abbrev mutual
  pub raised : ℕ → PlainExpr → PlainExpr
  raised n (word v) = word v
  raised n (load s) = load (s + n)
  raised n (op1 o a) = op1 o (raised n a)
  raised n (op2 o a b) = op2 o (raised n a) (raised n b)
  raised n (both a b) = both (raised n a) (raised n b)
  raised n (either a b) = either (raised n a) (raised n b)
  raised n (call k es) = call k (all_raised n es)
  raised n (seq es) = seq (all_raised n es)
  raised n (bind s w a b) = bind (s + n) w (raised n a) (raised n b)

  pub all_raised : ℕ → PlainExprs → PlainExprs
  all_raised n no_exprs = no_exprs
  all_raised n (exprs e es) = exprs (raised n e) (all_raised n es)

-- a call whose arguments are done, in a function that has so many slots so far: its parameters are bound to slots of their own. The
-- call stays where the slots would be more than 255
abbrev pub inlined_call : ℕ → PlainExprs → ℕ → Option PlainSmall → PlainExpr
inlined_call k es slots None = call k es
inlined_call k es slots (Some s) = if leb (slots + s.slots) 255 then bind slots s.params (seq es) (raised slots s.gives) else call k es

abbrev pub slots_behind : ℕ → Option PlainSmall → ℕ
slots_behind slots None = slots
slots_behind slots (Some s) = if leb (slots + s.slots) 255 then slots + s.slots else slots

-- the slots behind an expression, then the expression
abbrev mutual
  pub expr_slots : List (Option PlainSmall) → ℕ → PlainExpr → ℕ
  expr_slots small n (word v) = n
  expr_slots small n (load s) = n
  expr_slots small n (op1 o a) = expr_slots small n a
  expr_slots small n (op2 o a b) = expr_slots small (expr_slots small n a) b
  expr_slots small n (both a b) = expr_slots small (expr_slots small n a) b
  expr_slots small n (either a b) = expr_slots small (expr_slots small n a) b
  expr_slots small n (call k es) = slots_behind (exprs_slots small n es) (callee small k)
  expr_slots small n (seq es) = exprs_slots small n es
  expr_slots small n (bind s w a b) = expr_slots small (expr_slots small n a) b

  pub exprs_slots : List (Option PlainSmall) → ℕ → PlainExprs → ℕ
  exprs_slots small n no_exprs = n
  exprs_slots small n (exprs e es) = exprs_slots small (expr_slots small n e) es

abbrev mutual
  pub inlined_expr : List (Option PlainSmall) → ℕ → PlainExpr → PlainExpr
  inlined_expr small n (word v) = word v
  inlined_expr small n (load s) = load s
  inlined_expr small n (op1 o a) = op1 o (inlined_expr small n a)
  inlined_expr small n (op2 o a b) = op2 o (inlined_expr small n a) (inlined_expr small (expr_slots small n a) b)
  inlined_expr small n (both a b) = both (inlined_expr small n a) (inlined_expr small (expr_slots small n a) b)
  inlined_expr small n (either a b) = either (inlined_expr small n a) (inlined_expr small (expr_slots small n a) b)
  inlined_expr small n (call k es) = inlined_call k (inlined_exprs small n es) (exprs_slots small n es) (callee small k)
  inlined_expr small n (seq es) = seq (inlined_exprs small n es)
  inlined_expr small n (bind s w a b) = bind s w (inlined_expr small n a) (inlined_expr small (expr_slots small n a) b)

  pub inlined_exprs : List (Option PlainSmall) → ℕ → PlainExprs → PlainExprs
  inlined_exprs small n no_exprs = no_exprs
  inlined_exprs small n (exprs e es) = exprs (inlined_expr small n e) (inlined_exprs small (expr_slots small n e) es)

abbrev mutual
  pub stmt_slots : List (Option PlainSmall) → ℕ → PlainStmt → ℕ
  stmt_slots small n (store s w e) = expr_slots small n e
  stmt_slots small n (fork e a b) = stmts_slots small (stmts_slots small (expr_slots small n e) a) b
  stmt_slots small n (loop e a) = stmts_slots small (expr_slots small n e) a
  stmt_slots small n (give e) = expr_slots small n e
  stmt_slots small n (print e) = expr_slots small n e
  stmt_slots small n (eval e w) = expr_slots small n e

  pub stmts_slots : List (Option PlainSmall) → ℕ → PlainStmts → ℕ
  stmts_slots small n no_stmts = n
  stmts_slots small n (stmts s ss) = stmts_slots small (stmt_slots small n s) ss

abbrev mutual
  pub inlined_stmt : List (Option PlainSmall) → ℕ → PlainStmt → PlainStmt
  inlined_stmt small n (store s w e) = store s w (inlined_expr small n e)
  inlined_stmt small n (fork e a b) =
      fork (inlined_expr small n e) (inlined_stmts small (expr_slots small n e) a) (inlined_stmts small (stmts_slots small (expr_slots small n e) a) b)
  inlined_stmt small n (loop e a) = loop (inlined_expr small n e) (inlined_stmts small (expr_slots small n e) a)
  inlined_stmt small n (give e) = give (inlined_expr small n e)
  inlined_stmt small n (print e) = print (inlined_expr small n e)
  inlined_stmt small n (eval e w) = eval (inlined_expr small n e) w

  pub inlined_stmts : List (Option PlainSmall) → ℕ → PlainStmts → PlainStmts
  inlined_stmts small n no_stmts = no_stmts
  inlined_stmts small n (stmts s ss) = stmts (inlined_stmt small n s) (inlined_stmts small (stmt_slots small n s) ss)

abbrev pub inlined_fn : List (Option PlainSmall) → PlainFn → PlainFn
inlined_fn small f = record f { slots = stmts_slots small f.slots f.body; body = inlined_stmts small f.slots f.body }

-- the bodies that are put in place are those before anything was put in place
abbrev pub inlined_unit : PlainUnit → PlainUnit
inlined_unit u = record u { functions = map (inlined_fn (map small u.functions)) u.functions }
