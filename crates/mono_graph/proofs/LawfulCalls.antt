-- The calls of a lawful body.
use Rattle.std.proofs.Common.{◌≡◌, ◌<◌, List, [], ◌∷◌, ◌++◌, length, true, Some}
use Rattle.std.specs.Prelude.{slice_get}
use Rattle.std.specs.List.{AllByRecursion}
use Rattle.type_table.specs.TypeOf.{TypeOf}
use Rattle.type_table.specs.Lawful.{these}
use Rattle.lar_typed.specs.Exprs.{PlainExpr, PlainExprs, label_of, truth, local, constant, generic, tuple_of, made, part, unary, binary, call, no_exprs, exprs}
use Rattle.lar_typed.specs.Exprs as expr
use Rattle.lar_typed.specs.Stmts.{PlainStmt, PlainStmts, let_local, assign, fork, loop, return_nothing, return_value, print, assert, eval, no_stmts, stmts}
use Rattle.lar_typed.specs.Calls.{CallOf, expr_calls, exprs_calls, stmt_calls, stmts_calls}
use Rattle.lar_typed.specs.Lawful.{Signature, Frame, type_fits, lawful, all_lawful}
use Rattle.lar_typed.specs.LawfulBody.{stmt_lawful, stmts_lawful}
use Rattle.lar_typed.specs.Parts.{CallParts}
use Rattle.lar_typed.proofs.ExprParts.{tuple_parts, made_parts, field_parts, unary_parts, binary_parts, call_parts, list_parts}
use Rattle.lar_typed.proofs.StmtParts.{let_parts, assign_parts, fork_parts, loop_parts, value_parts, print_parts, assert_parts, eval_parts, block_parts}

-- a call of a function that is there, with arguments of the sorts of its generics
pub record LawfulCall (fr : Frame) (c : CallOf TypeOf) : Type 0 where
  pub signature : Signature
  pub there : c.callee < length fr.functions
  pub signature_there : slice_get fr.functions c.callee ≡ Some signature
  pub generics_fit : type_fits fr c.generics (these signature.generics) ≡ true

abbrev pub LawfulCalls : Frame → List (CallOf TypeOf) → Type 0
LawfulCalls fr cs = AllByRecursion (LawfulCall fr) cs

joined : (fr : Frame) (cs ds : List (CallOf TypeOf)) → LawfulCalls fr cs → LawfulCalls fr ds → LawfulCalls fr (cs ++ ds)
joined fr [] ds p q = q
joined fr (c ∷ cs) ds p q = (p.0, joined fr cs ds p.1 q)

mutual
  expr_lawful : (fr : Frame) (e : PlainExpr) → lawful fr e ≡ true → LawfulCalls fr (expr_calls e)
  expr_lawful fr (expr.int t v) h = tt
  expr_lawful fr (truth t b) h = tt
  expr_lawful fr (local t k) h = tt
  expr_lawful fr (constant t k) h = tt
  expr_lawful fr (generic t k) h = tt
  expr_lawful fr (tuple_of t es) h = exprs_lawful fr es (tuple_parts fr t es h).lawful_parts
  expr_lawful fr (made t es) h = exprs_lawful fr es (made_parts fr t es h).lawful_fields
  expr_lawful fr (part t e k) h = expr_lawful fr e (field_parts fr t e k h).1
  expr_lawful fr (unary t op e) h = expr_lawful fr e (unary_parts fr t op e h).1
  expr_lawful fr (binary t op a b) h = joined fr (expr_calls a) (expr_calls b) (expr_lawful fr a (binary_parts fr t op a b h).1) (expr_lawful fr b (binary_parts fr t op a b h).2)
  expr_lawful fr (call t n gs es at) h =
      let p : CallParts fr t n gs es = call_parts fr t n gs es at h in
      (record { signature = p.signature; there = p.there; signature_there = p.signature_there; generics_fit = p.generics_fit }, exprs_lawful fr es p.lawful_args)

  exprs_lawful : (fr : Frame) (es : PlainExprs) → all_lawful fr es ≡ true → LawfulCalls fr (exprs_calls es)
  exprs_lawful fr no_exprs h = tt
  exprs_lawful fr (exprs e es) h = joined fr (expr_calls e) (exprs_calls es) (expr_lawful fr e (list_parts fr e es h).0) (exprs_lawful fr es (list_parts fr e es h).1)

mutual
  stmt_lawful_calls : (fr : Frame) (s : PlainStmt) → stmt_lawful fr s ≡ true → LawfulCalls fr (stmt_calls s)
  stmt_lawful_calls fr (let_local n e) h = expr_lawful fr e (let_parts fr n e h).1
  stmt_lawful_calls fr (assign n ps e) h = expr_lawful fr e (assign_parts fr n ps e h).1
  stmt_lawful_calls fr (fork c a b) h =
      let p = fork_parts fr c a b h in
      joined fr (expr_calls c) (stmts_calls a ++ stmts_calls b) (expr_lawful fr c (p.0).is_lawful) (joined fr (stmts_calls a) (stmts_calls b) (stmts_lawful_calls fr a p.1) (stmts_lawful_calls fr b p.2))
  stmt_lawful_calls fr (loop c a) h =
      let p = loop_parts fr c a h in
      joined fr (expr_calls c) (stmts_calls a) (expr_lawful fr c (p.0).is_lawful) (stmts_lawful_calls fr a p.1)
  stmt_lawful_calls fr return_nothing h = tt
  stmt_lawful_calls fr (return_value e) h = expr_lawful fr e (value_parts fr e h).is_lawful
  stmt_lawful_calls fr (print e) h = expr_lawful fr e (print_parts fr e h).is_lawful
  stmt_lawful_calls fr (assert e at) h = expr_lawful fr e ((assert_parts fr e at h).0).is_lawful
  stmt_lawful_calls fr (eval e) h = expr_lawful fr e (eval_parts fr e h)

  -- each call of a lawful body is lawful
  pub stmts_lawful_calls : (fr : Frame) (ss : PlainStmts) → stmts_lawful fr ss ≡ true → LawfulCalls fr (stmts_calls ss)
  stmts_lawful_calls fr no_stmts h = tt
  stmts_lawful_calls fr (stmts s ss) h = joined fr (stmt_calls s) (stmts_calls ss) (stmt_lawful_calls fr s (block_parts fr s ss h).0) (stmts_lawful_calls fr ss (block_parts fr s ss h).1)
