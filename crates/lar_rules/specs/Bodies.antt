-- The statements of a body: what each declares, the faults in it, and what it is with its types.
use Rattle.std.specs.Prelude.{ℕ, suc, Bool, true, false, ◌&&◌, ◌||◌, List, [], ◌∷◌, ◌++◌, length, map, Option, Some, None, option_map, if◌then◌else◌}
use Rattle.lar_source.specs.declared.file.Span.{Span}
use Rattle.lar_source.specs.declared.code.Code.TheVariants.{NoSuchPlace}
use Rattle.type_table.specs.TypeOf.{TypeOf, int, bool, end, tuple}
use Rattle.lar_typed.specs.SameType.{same_type}
use Rattle.lar_typed.specs.Exprs as typed
use Rattle.lar_typed.specs.Stmts as typed_stmt
use Rattle.lar_tree.specs.Exprs.{PlainExpr, path, field}
use Rattle.lar_tree.specs.Exprs as plain
use Rattle.lar_tree.specs.Stmts.{PlainLet, PlainSetting, PlainStmt, let_stmt, if_stmt, while_stmt, return_stmt, print_stmt, assert_stmt, expr_stmt, PlainBlock, block, PlainStmts, no_stmts, stmts, PlainIf, fork, PlainElse, no_else, else_block, else_if}
use Rattle.lar_rules.specs.Fault.{Fault, fault}
use Rattle.lar_rules.specs.Written.{Site, Written, written}
use Rattle.lar_rules.specs.Judged.{Local, Env, Judged, misfit, fitting, misfit_if, fitting_if, other_type}
use Rattle.lar_rules.specs.Exprs.{judge, ValueName, a_local, a_number, a_constant, no_value, value_named}

-- what a body stands in: where it is written, and the type of the result where it is known
pub record Body : Type 0 where
  pub site : Site
  pub outcome : Option TypeOf

-- the locals in scope, the innermost first, and the types of all locals so far by number
pub record State : Type 0 where
  pub locals : List Local
  pub types : List (Option TypeOf)

abbrev pub env_of : Body → State → Env
env_of b s = record { site = b.site; locals = s.locals; asserting = false }

abbrev pub assert_env : Body → State → Env
assert_env b s = record { site = b.site; locals = s.locals; asserting = true }

-- statements with their types, where there is no fault in them, the faults, and the state after them
pub record Done (A : Type 0) : Type 0 where
  pub typed : Option A
  pub faults : List Fault
  pub after : State

-- a local of this name and type, which the next statement sees
abbrev pub with_local : State → List ℕ → Option TypeOf → State
with_local s name t = record { locals = record { name = name; number = length s.types; of = t } ∷ s.locals; types = s.types ++ t ∷ [] }

-- the state after a block: its locals are no longer in scope
abbrev pub closed : State → State → State
closed before after = record { locals = before.locals; types = after.types }

-- the value is judged before the local is there
abbrev pub let_done : Body → State → PlainLet → Written → Judged → Done typed_stmt.PlainStmt
let_done b s l w j = record {
  typed = option_map (typed_stmt.let_local (length s.types)) (fitting_if w.of j);
  faults = w.faults ++ (j.faults ++ misfit_if b.site w.of j);
  after = with_local s l.name.text w.of;
}

-- a statement of one expression that has this type
abbrev pub of_type : Body → State → TypeOf → (typed.PlainExpr → typed_stmt.PlainStmt) → Judged → Done typed_stmt.PlainStmt
of_type b s t made j = record { typed = option_map made (fitting t j); faults = j.faults ++ misfit b.site t j; after = s }

-- `return` without a value gives `()`
abbrev pub return_misfit : Body → Span → Option TypeOf → List Fault
return_misfit b at None = []
return_misfit b at (Some t) = if same_type (tuple end) t then [] else other_type b.site at t (tuple end) ∷ []

abbrev pub return_typed : Option TypeOf → Option typed_stmt.PlainStmt
return_typed None = None
return_typed (Some t) = if same_type (tuple end) t then Some typed_stmt.return_nothing else None

abbrev pub return_done : Body → State → Span → Option PlainExpr → Done typed_stmt.PlainStmt
return_done b s at None = record { typed = return_typed b.outcome; faults = return_misfit b at b.outcome; after = s }
return_done b s at (Some e) = record {
  typed = option_map typed_stmt.return_value (fitting_if b.outcome (judge (env_of b s) e));
  faults = (judge (env_of b s) e).faults ++ misfit_if b.site b.outcome (judge (env_of b s) e);
  after = s;
}

abbrev pub is_local : ValueName → Bool
is_local (a_local l) = true
is_local (a_number k) = false
is_local (a_constant n) = false
is_local no_value = false

-- a local followed by fields
abbrev pub is_place : Env → PlainExpr → Bool
is_place env (path p) = is_local (value_named env p)
is_place env (field inner dot s) = is_place env inner
is_place env (plain.number n at) = false
is_place env (plain.truth at) = false
is_place env (plain.untruth at) = false
is_place env (plain.paren from ps to) = false
is_place env (plain.new_struct at p generics from is to) = false
is_place env (plain.call p generics from ps to) = false
is_place env (plain.unary_of op at inner) = false
is_place env (plain.binary_of left op at right) = false

abbrev pub misplaced : Env → PlainExpr → Span → List Fault
misplaced env e at = if is_place env e then [] else fault env.site.file at NoSuchPlace [] ∷ []

abbrev pub label_if : Option typed.PlainExpr → Option TypeOf
label_if None = None
label_if (Some e) = Some (typed.label_of e)

-- a local and the steps to a part of it
abbrev pub Target : Type 0
Target = ℕ × List (typed_stmt.StepOf TypeOf)

abbrev pub one_further : ℕ → TypeOf → Option Target → Option Target
one_further k t None = None
one_further k t (Some p) = Some (p.0, p.1 ++ record { part = k; of = t } ∷ [])

abbrev pub target_of : typed.PlainExpr → Option Target
target_of (typed.local t n) = Some (n, [])
target_of (typed.part t e k) = one_further k t (target_of e)
target_of (typed.int t v) = None
target_of (typed.truth t v) = None
target_of (typed.constant t n) = None
target_of (typed.generic t k) = None
target_of (typed.tuple_of t es) = None
target_of (typed.made t es) = None
target_of (typed.unary t op e) = None
target_of (typed.binary t op a b) = None
target_of (typed.call t n gs es at) = None

abbrev pub target_if : Option typed.PlainExpr → Option Target
target_if None = None
target_if (Some e) = target_of e

abbrev pub assigned : Option Target → Option typed.PlainExpr → Option typed_stmt.PlainStmt
assigned (Some p) (Some e) = Some (typed_stmt.assign p.0 p.1 e)
assigned _ _ = None

-- The place is judged as an expression too; the value has its type.
abbrev pub assign_done : Body → State → PlainExpr → Judged → Judged → Done typed_stmt.PlainStmt
assign_done b s place l r = record {
  typed = assigned (target_if l.typed) (fitting_if (label_if l.typed) r);
  faults = l.faults ++ (misplaced (env_of b s) place l.at ++ (r.faults ++ misfit_if b.site (label_if l.typed) r));
  after = s;
}

abbrev pub expr_done : Body → State → PlainExpr → Option PlainSetting → Done typed_stmt.PlainStmt
expr_done b s e None = record { typed = option_map typed_stmt.eval (judge (env_of b s) e).typed; faults = (judge (env_of b s) e).faults; after = s }
expr_done b s e (Some a) = assign_done b s e (judge (env_of b s) e) (judge (env_of b s) a.1)

abbrev pub loop_typed : Option typed.PlainExpr → Option typed_stmt.PlainStmts → Option typed_stmt.PlainStmt
loop_typed (Some c) (Some a) = Some (typed_stmt.loop c a)
loop_typed _ _ = None

abbrev pub fork_typed : Option typed.PlainExpr → Option typed_stmt.PlainStmts → Option typed_stmt.PlainStmts → Option typed_stmt.PlainStmt
fork_typed (Some c) (Some a) (Some b) = Some (typed_stmt.fork c a b)
fork_typed _ _ _ = None

abbrev pub then_stmt : Option typed_stmt.PlainStmt → Option typed_stmt.PlainStmts → Option typed_stmt.PlainStmts
then_stmt (Some x) (Some xs) = Some (typed_stmt.stmts x xs)
then_stmt _ _ = None

abbrev pub after_test : Body → Judged → Done typed_stmt.PlainStmts → Done typed_stmt.PlainStmt
after_test b c a = record { typed = loop_typed (fitting bool c) a.typed; faults = c.faults ++ (misfit b.site bool c ++ a.faults); after = a.after }

abbrev pub forked : Body → Judged → Done typed_stmt.PlainStmts → Done typed_stmt.PlainStmts → Done typed_stmt.PlainStmt
forked b c x y = record {
  typed = fork_typed (fitting bool c) x.typed y.typed;
  faults = c.faults ++ (misfit b.site bool c ++ (x.faults ++ y.faults));
  after = y.after;
}

abbrev pub sequel : Done typed_stmt.PlainStmt → Done typed_stmt.PlainStmts → Done typed_stmt.PlainStmts
sequel x y = record { typed = then_stmt x.typed y.typed; faults = x.faults ++ y.faults; after = y.after }

-- a list of one statement
abbrev pub only : Done typed_stmt.PlainStmt → Done typed_stmt.PlainStmts
only x = record { typed = then_stmt x.typed (Some typed_stmt.no_stmts); faults = x.faults; after = x.after }

abbrev pub in_block : State → Done typed_stmt.PlainStmts → Done typed_stmt.PlainStmts
in_block s d = record { typed = d.typed; faults = d.faults; after = closed s d.after }

abbrev mutual
  pub stmt_done : Body → State → PlainStmt → Done typed_stmt.PlainStmt
  stmt_done b s (let_stmt l) = let_done b s l (written b.site l.ty) (judge (env_of b s) l.value)
  stmt_done b s (if_stmt f) = if_done b s f
  stmt_done b s (while_stmt at test body) = after_test b (judge (env_of b s) test) (block_done b s body)
  stmt_done b s (return_stmt at value to) = return_done b s at value
  stmt_done b s (print_stmt a) = of_type b s int typed_stmt.print (judge (env_of b s) a.value)
  stmt_done b s (assert_stmt a) = of_type b s bool (λ e. typed_stmt.assert e a.keyword) (judge (assert_env b s) a.value)
  stmt_done b s (expr_stmt e assigned to) = expr_done b s e assigned

  pub block_done : Body → State → PlainBlock → Done typed_stmt.PlainStmts
  block_done b s (block from ss to) = in_block s (stmts_done b s ss)

  pub stmts_done : Body → State → PlainStmts → Done typed_stmt.PlainStmts
  stmts_done b s no_stmts = record { typed = Some typed_stmt.no_stmts; faults = []; after = s }
  stmts_done b s (stmts x xs) = sequel (stmt_done b s x) (stmts_done b (stmt_done b s x).after xs)

  pub if_done : Body → State → PlainIf → Done typed_stmt.PlainStmt
  if_done b s (fork at test body other) = forked b (judge (env_of b s) test) (block_done b s body) (else_done b (block_done b s body).after other)

  pub else_done : Body → State → PlainElse → Done typed_stmt.PlainStmts
  else_done b s no_else = record { typed = Some typed_stmt.no_stmts; faults = []; after = s }
  else_done b s (else_block at body) = block_done b s body
  else_done b s (else_if at f) = only (if_done b s f)

-- a block returns where one of its statements is `return`, or an `if` with `else` both of whose branches return
abbrev mutual
  pub stmt_returns : PlainStmt → Bool
  stmt_returns (let_stmt l) = false
  stmt_returns (if_stmt f) = if_returns f
  stmt_returns (while_stmt at test body) = false
  stmt_returns (return_stmt at value to) = true
  stmt_returns (print_stmt a) = false
  stmt_returns (assert_stmt a) = false
  stmt_returns (expr_stmt e assigned to) = false

  pub block_returns : PlainBlock → Bool
  block_returns (block from ss to) = stmts_return ss

  pub stmts_return : PlainStmts → Bool
  stmts_return no_stmts = false
  stmts_return (stmts x xs) = stmt_returns x || stmts_return xs

  pub if_returns : PlainIf → Bool
  if_returns (fork at test body other) = block_returns body && else_returns other

  pub else_returns : PlainElse → Bool
  else_returns no_else = false
  else_returns (else_block at body) = block_returns body
  else_returns (else_if at f) = if_returns f
