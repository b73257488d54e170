use Rattle.std.proofs.Common.{◌≡◌, ℕ, List, ◌∷◌, refl, sym, Bool, true, false, Option, Some}
use Rattle.std.specs.Prelude.{◌&&◌, slice_get}
use Rattle.lar_source.specs.declared.file.Span.{Span}
use Rattle.type_table.specs.TypeOf.{TypeOf, int, bool, end, tuple}
use Rattle.lar_typed.specs.Exprs.{PlainExpr, label_of}
use Rattle.lar_typed.specs.Stmts.{StepOf, PlainStmt, PlainStmts, let_local, assign, fork, loop, return_nothing, return_value, print, assert, eval, no_stmts, stmts}
use Rattle.lar_typed.specs.SameType.{same_type, is_type}
use Rattle.lar_typed.specs.Lawful.{Frame, lawful, part_type}
use Rattle.lar_typed.specs.LawfulBody.{steps_fit, is_static, has, stmt_lawful, stmts_lawful}
use Rattle.lar_typed.specs.Parts.{Has}
use Rattle.lar_typed.proofs.SameTypes.{and_true, same_means, is_type_means}

pub has_parts : (fr : Frame) (t : TypeOf) (e : PlainExpr) → has fr t e ≡ true → Has fr t e
has_parts fr t e h =
    let p : (same_type (label_of e) t ≡ true) × (lawful fr e ≡ true) = and_true (same_type (label_of e) t) (lawful fr e) h in
    record { of = same_means (label_of e) t p.0; is_lawful = p.1 }

pub let_parts : (fr : Frame) (n : ℕ) (e : PlainExpr) → stmt_lawful fr (let_local n e) ≡ true → (slice_get fr.locals n ≡ Some (label_of e)) × (lawful fr e ≡ true)
let_parts fr n e h =
    let p : (is_type (label_of e) (slice_get fr.locals n) ≡ true) × (lawful fr e ≡ true) = and_true (is_type (label_of e) (slice_get fr.locals n)) (lawful fr e) h in
    (is_type_means (label_of e) (slice_get fr.locals n) p.0, p.1)

pub assign_parts : (fr : Frame) (n : ℕ) (ps : List (StepOf TypeOf)) (e : PlainExpr) → stmt_lawful fr (assign n ps e) ≡ true → (steps_fit fr (slice_get fr.locals n) ps (label_of e) ≡ true) × (lawful fr e ≡ true)
assign_parts fr n ps e h = and_true (steps_fit fr (slice_get fr.locals n) ps (label_of e)) (lawful fr e) h

pub step_parts : (fr : Frame) (u : TypeOf) (p : StepOf TypeOf) (ps : List (StepOf TypeOf)) (t : TypeOf) → steps_fit fr (Some u) (p ∷ ps) t ≡ true → (part_type fr.structs u p.part ≡ Some p.of) × (steps_fit fr (Some p.of) ps t ≡ true)
step_parts fr u p ps t h =
    let q : (is_type p.of (part_type fr.structs u p.part) ≡ true) × (steps_fit fr (Some p.of) ps t ≡ true) = and_true (is_type p.of (part_type fr.structs u p.part)) (steps_fit fr (Some p.of) ps t) h in
    (is_type_means p.of (part_type fr.structs u p.part) q.0, q.1)

pub fork_parts : (fr : Frame) (c : PlainExpr) (a b : PlainStmts) → stmt_lawful fr (fork c a b) ≡ true → Has fr bool c × (stmts_lawful fr a ≡ true) × (stmts_lawful fr b ≡ true)
fork_parts fr c a b h =
    let p : (has fr bool c ≡ true) × ((stmts_lawful fr a && stmts_lawful fr b) ≡ true) = and_true (has fr bool c) (stmts_lawful fr a && stmts_lawful fr b) h in
    let q : (stmts_lawful fr a ≡ true) × (stmts_lawful fr b ≡ true) = and_true (stmts_lawful fr a) (stmts_lawful fr b) p.1 in
    (has_parts fr bool c p.0, q.0, q.1)

pub loop_parts : (fr : Frame) (c : PlainExpr) (a : PlainStmts) → stmt_lawful fr (loop c a) ≡ true → Has fr bool c × (stmts_lawful fr a ≡ true)
loop_parts fr c a h =
    let p : (has fr bool c ≡ true) × (stmts_lawful fr a ≡ true) = and_true (has fr bool c) (stmts_lawful fr a) h in
    (has_parts fr bool c p.0, p.1)

pub nothing_parts : (fr : Frame) → stmt_lawful fr return_nothing ≡ true → fr.outcome ≡ tuple end
nothing_parts fr h = same_means fr.outcome (tuple end) h

pub value_parts : (fr : Frame) (e : PlainExpr) → stmt_lawful fr (return_value e) ≡ true → Has fr fr.outcome e
value_parts fr e h = has_parts fr fr.outcome e h

pub print_parts : (fr : Frame) (e : PlainExpr) → stmt_lawful fr (print e) ≡ true → Has fr int e
print_parts fr e h = has_parts fr int e h

pub assert_parts : (fr : Frame) (e : PlainExpr) (at : Span) → stmt_lawful fr (assert e at) ≡ true → Has fr bool e × (is_static e ≡ true)
assert_parts fr e at h =
    let p : (has fr bool e ≡ true) × (is_static e ≡ true) = and_true (has fr bool e) (is_static e) h in
    (has_parts fr bool e p.0, p.1)

pub eval_parts : (fr : Frame) (e : PlainExpr) → stmt_lawful fr (eval e) ≡ true → lawful fr e ≡ true
eval_parts fr e h = h

pub block_parts : (fr : Frame) (s : PlainStmt) (ss : PlainStmts) → stmts_lawful fr (stmts s ss) ≡ true → (stmt_lawful fr s ≡ true) × (stmts_lawful fr ss ≡ true)
block_parts fr s ss h = and_true (stmt_lawful fr s) (stmts_lawful fr ss) h
