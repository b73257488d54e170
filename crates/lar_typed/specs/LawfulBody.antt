-- What the statements of a body keep.
use Rattle.std.specs.Prelude.{ℕ, Bool, true, false, ◌&&◌, ◌||◌, List, [], ◌∷◌, slice_get, Option, Some, None}
use Rattle.type_table.specs.TypeOf.{TypeOf, int, bool, end, tuple}
use Rattle.lar_typed.specs.Exprs.{ExprOf, ExprsOf, PlainExpr, truth, local, constant, generic, tuple_of, made, part, unary, binary, call, label_of}
use Rattle.lar_typed.specs.Exprs as expr
use Rattle.lar_typed.specs.Stmts.{StepOf, StmtOf, StmtsOf, PlainStmt, PlainStmts, let_local, assign, fork, loop, return_nothing, return_value, print, assert, eval, no_stmts, stmts}
use Rattle.lar_typed.specs.SameType.{same_type, is_type}
use Rattle.lar_typed.specs.Lawful.{Frame, lawful, part_type}

-- Each step goes to a part of what the steps before it lead to, from the type o, and they end at the type t.
abbrev pub steps_fit : Frame → Option TypeOf → List (StepOf TypeOf) → TypeOf → Bool
steps_fit fr None ps t = false
steps_fit fr (Some u) [] t = same_type t u
steps_fit fr (Some u) (p ∷ ps) t = is_type p.of (part_type fr.structs u p.part) && steps_fit fr (Some p.of) ps t

-- made of numbers, truths, constants, const generics and operators alone
abbrev pub is_static : {A : Type 0} → ExprOf A → Bool
is_static (expr.int t v) = true
is_static (truth t b) = true
is_static (constant t n) = true
is_static (generic t k) = true
is_static (unary t op e) = is_static e
is_static (binary t op a b) = is_static a && is_static b
is_static (local t n) = false
is_static (tuple_of t es) = false
is_static (made t es) = false
is_static (part t e k) = false
is_static (call t n gs es at) = false

-- a lawful expression of this type
abbrev pub has : Frame → TypeOf → PlainExpr → Bool
has fr t e = same_type (label_of e) t && lawful fr e

abbrev mutual
  pub stmt_lawful : Frame → PlainStmt → Bool
  stmt_lawful fr (let_local n e) = is_type (label_of e) (slice_get fr.locals n) && lawful fr e
  stmt_lawful fr (assign n ps e) = steps_fit fr (slice_get fr.locals n) ps (label_of e) && lawful fr e
  stmt_lawful fr (fork c a b) = has fr bool c && (stmts_lawful fr a && stmts_lawful fr b)
  stmt_lawful fr (loop c a) = has fr bool c && stmts_lawful fr a
  stmt_lawful fr return_nothing = same_type fr.outcome (tuple end)
  stmt_lawful fr (return_value e) = has fr fr.outcome e
  stmt_lawful fr (print e) = has fr int e
  stmt_lawful fr (assert e at) = has fr bool e && is_static e
  stmt_lawful fr (eval e) = lawful fr e

  pub stmts_lawful : Frame → PlainStmts → Bool
  stmts_lawful fr no_stmts = true
  stmts_lawful fr (stmts s ss) = stmt_lawful fr s && stmts_lawful fr ss

-- a block returns where one of its statements is `return`, or an `if` both of whose branches return
abbrev mutual
  pub stmt_returns : {A : Type 0} → StmtOf A → Bool
  stmt_returns (fork c a b) = returns a && returns b
  stmt_returns return_nothing = true
  stmt_returns (return_value e) = true
  stmt_returns (let_local n e) = false
  stmt_returns (assign n ps e) = false
  stmt_returns (loop c a) = false
  stmt_returns (print e) = false
  stmt_returns (assert e at) = false
  stmt_returns (eval e) = false

  pub returns : {A : Type 0} → StmtsOf A → Bool
  returns no_stmts = false
  returns (stmts s ss) = stmt_returns s || returns ss
