-- Statements with their types are lawful in a frame that has the types of all locals.
use Rattle.std.proofs.Common.{◌≡◌, ℕ, refl, sym, ap, ◌∙◌, subst as transport, true≢false, Bool, true, false, ◌&&◌, if◌then◌else◌, List, [], ◌∷◌, ◌++◌, length, slice_get, Option, Some, None, option_map}
use Rattle.lar_source.specs.declared.file.Span.{Span}
use Rattle.type_table.specs.TypeOf.{TypeOf, int, bool, end, tuple}
use Rattle.lar_typed.specs.Exprs as typed
use Rattle.lar_typed.specs.Stmts as typed_stmt
use Rattle.lar_typed.specs.SameType.{same_type, is_type}
use Rattle.lar_typed.specs.Lawful.{Frame, lawful, part_type}
use Rattle.lar_typed.specs.LawfulBody.{steps_fit, is_static, has, stmt_lawful, stmts_lawful}
use Rattle.lar_typed.specs.Parts.{Has}
use Rattle.lar_typed.proofs.SameTypes.{and_true, both_true, same_means, same_self}
use Rattle.lar_tree.specs.Exprs.{PlainExpr}
use Rattle.lar_tree.specs.Stmts.{IfThere, PlainSetting, PlainStmt, let_stmt, if_stmt, while_stmt, return_stmt, print_stmt, assert_stmt, expr_stmt, PlainBlock, block, PlainStmts, no_stmts, stmts, PlainIf, fork, PlainElse, no_else, else_block, else_if}
use Rattle.lar_tree.specs.Lawful.{Every, OuterExpr, OuterSetting, LimitedStmt, LimitedBlock, LimitedStmts, LimitedIf, LimitedElse}
use Rattle.lar_rules.specs.Written.{written}
use Rattle.lar_rules.specs.Judged.{Local, Judged, fitting, fitting_if}
use Rattle.lar_rules.specs.Exprs.{judge}
use Rattle.lar_rules.specs.Bodies.{Body, State, env_of, assert_env, return_typed, return_done, label_if, Target, one_further, target_of, target_if, assigned, expr_done, loop_typed, fork_typed, then_stmt, stmt_done, block_done, stmts_done, if_done, else_done}
use Rattle.lar_rules.specs.Checked.{all_known}
use Rattle.lar_sound.specs.Frames.{IsLocalIn, IsFrameOf, AreNumbered, IsBodyFrame}
use Rattle.lar_sound.proofs.FramesFit.{known_at}
use Rattle.lar_sound.proofs.ExprsStatic.{StaticIf, fitting_keeps, judge_static}
use Rattle.lar_sound.proofs.ValuesLawful.{LawfulIf, fitting_has, same_of}
use Rattle.lar_sound.proofs.ExprsLawful.{judge_lawful}
use Rattle.lar_sound.proofs.StmtsAfter.{Types, Front, front_self, front_then, get_in, get_last, IsAfter, stmt_after, block_after, stmts_after, if_after, else_after}

abbrev StmtIf : Frame → Option typed_stmt.PlainStmt → Type 0
StmtIf fr o = IfThere (λ (x : typed_stmt.PlainStmt). stmt_lawful fr x ≡ true) o

abbrev pub BlockIf : Frame → Option typed_stmt.PlainStmts → Type 0
BlockIf fr o = IfThere (λ (x : typed_stmt.PlainStmts). stmts_lawful fr x ≡ true) o

-- LOCALS

pub local_at : (fr : Frame) (types now : Types) (n : ℕ) (o : Option TypeOf) → all_known types ≡ Some fr.locals
    → Front now types → slice_get now n ≡ Some o → slice_get fr.locals n ≡ o
local_at fr types now n o k f e = known_at types fr.locals n o k (get_in now types n o f e)

if_local : (ts : List TypeOf) (n : ℕ) (o : Option TypeOf) → slice_get ts n ≡ o
    → IfThere (λ (t : TypeOf). slice_get ts n ≡ Some t) o
if_local ts n None e = tt
if_local ts n (Some t) e = e

locals_in : (fr : Frame) (types now : Types) (ls : List Local) → all_known types ≡ Some fr.locals → Front now types
    → AreNumbered now ls → Every (IsLocalIn fr.locals) ls
locals_in fr types now [] k f h = tt
locals_in fr types now (l ∷ ls) k f h =
    (if_local fr.locals l.number l.of (local_at fr types now l.number l.of k f h.0), locals_in fr types now ls k f h.1)

frame_of_env : (fr : Frame) (b : Body) (types : Types) (s : State) → IsBodyFrame fr b types → Front s.types types
    → AreNumbered s.types s.locals → IsFrameOf fr (env_of b s)
frame_of_env fr b types s bf f h =
    record { items = bf.items; generics = bf.generics; locals = locals_in fr types s.types s.locals bf.known f h }

frame_of_assert : (fr : Frame) (b : Body) (types : Types) (s : State) → IsBodyFrame fr b types → Front s.types types
    → AreNumbered s.types s.locals → IsFrameOf fr (assert_env b s)
frame_of_assert fr b types s bf f h =
    record { items = bf.items; generics = bf.generics; locals = locals_in fr types s.types s.locals bf.known f h }

-- SINGLE STATEMENTS

has_of : (fr : Frame) (t : TypeOf) (e : typed.PlainExpr) → Has fr t e → has fr t e ≡ true
has_of fr t e h =
    both_true (same_type (typed.label_of e) t) (lawful fr e) (same_of (typed.label_of e) t h.of) h.is_lawful

let_one : (fr : Frame) (n : ℕ) (t : TypeOf) (o : Option typed.PlainExpr) → slice_get fr.locals n ≡ Some t
    → IfThere (Has fr t) o → StmtIf fr (option_map (typed_stmt.let_local n) o)
let_one fr n t None e h = tt
let_one fr n t (Some x) e h =
    both_true (is_type (typed.label_of x) (slice_get fr.locals n)) (lawful fr x)
    (ap (is_type (typed.label_of x)) e ∙ same_of (typed.label_of x) t h.of) h.is_lawful

let_lawful : (fr : Frame) (n : ℕ) (o : Option TypeOf) (j : Judged) → slice_get fr.locals n ≡ o → LawfulIf fr j.typed
    → StmtIf fr (option_map (typed_stmt.let_local n) (fitting_if o j))
let_lawful fr n None j e h = tt
let_lawful fr n (Some t) j e h = let_one fr n t (fitting t j) e (fitting_has fr t j.typed h)

print_lawful : (fr : Frame) (o : Option typed.PlainExpr) → IfThere (Has fr int) o
    → StmtIf fr (option_map typed_stmt.print o)
print_lawful fr None h = tt
print_lawful fr (Some e) h = has_of fr int e h

assert_lawful : (fr : Frame) (at : Span) (o : Option typed.PlainExpr) → IfThere (Has fr bool) o → StaticIf o
    → StmtIf fr (option_map (λ e. typed_stmt.assert e at) o)
assert_lawful fr at None h k = tt
assert_lawful fr at (Some e) h k = both_true (has fr bool e) (is_static e) (has_of fr bool e h) k

nothing_one : (fr : Frame) (b : Bool) → same_type (tuple end) fr.outcome ≡ b
    → StmtIf fr (if b then Some typed_stmt.return_nothing else None)
nothing_one fr true e = same_of fr.outcome (tuple end) (sym (same_means (tuple end) fr.outcome e))
nothing_one fr false e = tt

value_one : (fr : Frame) (o : Option typed.PlainExpr) → IfThere (Has fr fr.outcome) o
    → StmtIf fr (option_map typed_stmt.return_value o)
value_one fr None h = tt
value_one fr (Some e) h = has_of fr fr.outcome e h

nothing_lawful : (fr : Frame) (o : Option TypeOf) → o ≡ Some fr.outcome → StmtIf fr (return_typed o)
nothing_lawful fr o e =
    transport (λ (x : Option TypeOf). StmtIf fr (return_typed x)) (sym e)
    (nothing_one fr (same_type (tuple end) fr.outcome) refl)

value_lawful : (fr : Frame) (o : Option TypeOf) (j : Judged) → o ≡ Some fr.outcome → LawfulIf fr j.typed
    → StmtIf fr (option_map typed_stmt.return_value (fitting_if o j))
value_lawful fr o j e h =
    transport (λ (x : Option TypeOf). StmtIf fr (option_map typed_stmt.return_value (fitting_if x j))) (sym e)
    (value_one fr (fitting fr.outcome j) (fitting_has fr fr.outcome j.typed h))

eval_lawful : (fr : Frame) (o : Option typed.PlainExpr) → LawfulIf fr o → StmtIf fr (option_map typed_stmt.eval o)
eval_lawful fr None h = tt
eval_lawful fr (Some e) h = h

-- PLACES

abbrev Step : Type 0
Step = typed_stmt.StepOf TypeOf

steps_then : (fr : Frame) (o : Option TypeOf) (ps : List Step) (u : TypeOf) (p : Step) → steps_fit fr o ps u ≡ true
    → is_type p.of (part_type fr.structs u p.part) ≡ true → steps_fit fr o (ps ++ p ∷ []) p.of ≡ true
steps_then fr None ps u p h k = absurd (true≢false (sym h))
steps_then fr (Some v) [] u p h k =
    both_true (is_type p.of (part_type fr.structs v p.part)) (same_type p.of p.of)
    (transport (λ (x : TypeOf). is_type p.of (part_type fr.structs x p.part) ≡ true) (same_means u v h) k)
    (same_self p.of)
steps_then fr (Some v) (q ∷ ps) u p h k =
    let w = and_true (is_type q.of (part_type fr.structs v q.part)) (steps_fit fr (Some q.of) ps u) h in
    both_true (is_type q.of (part_type fr.structs v q.part)) (steps_fit fr (Some q.of) (ps ++ p ∷ []) p.of) w.0
    (steps_then fr (Some q.of) ps u p w.1 k)

no_steps : (fr : Frame) (t : TypeOf) (o : Option TypeOf) → is_type t o ≡ true → steps_fit fr o [] t ≡ true
no_steps fr t None h = h
no_steps fr t (Some u) h = h

abbrev TargetFits : Frame → TypeOf → Target → Type 0
TargetFits fr t p = steps_fit fr (slice_get fr.locals p.0) p.1 t ≡ true

further_fits : (fr : Frame) (k : ℕ) (t u : TypeOf) (o : Option Target) → is_type t (part_type fr.structs u k) ≡ true
    → IfThere (TargetFits fr u) o → IfThere (TargetFits fr t) (one_further k t o)
further_fits fr k t u None f h = tt
further_fits fr k t u (Some p) f h = steps_then fr (slice_get fr.locals p.0) p.1 u (record { part = k; of = t }) h f

target_fits : (fr : Frame) (e : typed.PlainExpr) → lawful fr e ≡ true
    → IfThere (TargetFits fr (typed.label_of e)) (target_of e)
target_fits fr (typed.local t n) h = no_steps fr t (slice_get fr.locals n) h
target_fits fr (typed.part t e k) h =
    let w = and_true (is_type t (part_type fr.structs (typed.label_of e) k)) (lawful fr e) h in
    further_fits fr k t (typed.label_of e) (target_of e) w.0 (target_fits fr e w.1)
target_fits fr (typed.int t v) h = tt
target_fits fr (typed.truth t v) h = tt
target_fits fr (typed.constant t n) h = tt
target_fits fr (typed.generic t k) h = tt
target_fits fr (typed.tuple_of t es) h = tt
target_fits fr (typed.made t es) h = tt
target_fits fr (typed.unary t op e) h = tt
target_fits fr (typed.binary t op a b) h = tt
target_fits fr (typed.call t n gs es at) h = tt

assigned_lawful : (fr : Frame) (t : TypeOf) (a : Option Target) (b : Option typed.PlainExpr)
    → IfThere (TargetFits fr t) a → IfThere (Has fr t) b → StmtIf fr (assigned a b)
assigned_lawful fr t None b h k = tt
assigned_lawful fr t (Some p) None h k = tt
assigned_lawful fr t (Some p) (Some e) h k =
    both_true (steps_fit fr (slice_get fr.locals p.0) p.1 (typed.label_of e)) (lawful fr e)
    (ap (steps_fit fr (slice_get fr.locals p.0) p.1) k.of ∙ h) k.is_lawful

assign_lawful : (fr : Frame) (o : Option typed.PlainExpr) (r : Judged) → LawfulIf fr o → LawfulIf fr r.typed
    → StmtIf fr (assigned (target_if o) (fitting_if (label_if o) r))
assign_lawful fr None r h k = tt
assign_lawful fr (Some e) r h k = assigned_lawful fr (typed.label_of e) (target_of e) (fitting (typed.label_of e) r)
    (target_fits fr e h) (fitting_has fr (typed.label_of e) r.typed k)

return_lawful : (fr : Frame) (b : Body) (types : Types) (s : State) (at : Span) (o : Option PlainExpr)
    → IsBodyFrame fr b types → IsFrameOf fr (env_of b s) → IfThere OuterExpr o → StmtIf fr (return_done b s at o).typed
return_lawful fr b types s at None bf f l = nothing_lawful fr b.outcome bf.outcome
return_lawful fr b types s at (Some e) bf f l =
    value_lawful fr b.outcome (judge (env_of b s) e) bf.outcome (judge_lawful fr (env_of b s) f e l.1)

expr_lawful : (fr : Frame) (b : Body) (s : State) (e : PlainExpr) (o : Option PlainSetting) → IsFrameOf fr (env_of b s)
    → OuterExpr e → IfThere OuterSetting o → StmtIf fr (expr_done b s e o).typed
expr_lawful fr b s e None f l k = eval_lawful fr (judge (env_of b s) e).typed (judge_lawful fr (env_of b s) f e l.1)
expr_lawful fr b s e (Some a) f l k =
    assign_lawful fr (judge (env_of b s) e).typed (judge (env_of b s) a.1) (judge_lawful fr (env_of b s) f e l.1)
    (judge_lawful fr (env_of b s) f a.1 k.1)

-- BLOCKS

loop_lawful : (fr : Frame) (c : Option typed.PlainExpr) (a : Option typed_stmt.PlainStmts) → IfThere (Has fr bool) c
    → BlockIf fr a → StmtIf fr (loop_typed c a)
loop_lawful fr None a h k = tt
loop_lawful fr (Some x) None h k = tt
loop_lawful fr (Some x) (Some y) h k = both_true (has fr bool x) (stmts_lawful fr y) (has_of fr bool x h) k

fork_lawful : (fr : Frame) (c : Option typed.PlainExpr) (a b : Option typed_stmt.PlainStmts) → IfThere (Has fr bool) c
    → BlockIf fr a → BlockIf fr b → StmtIf fr (fork_typed c a b)
fork_lawful fr None a b h k l = tt
fork_lawful fr (Some x) None b h k l = tt
fork_lawful fr (Some x) (Some y) None h k l = tt
fork_lawful fr (Some x) (Some y) (Some z) h k l =
    both_true (has fr bool x) (stmts_lawful fr y && stmts_lawful fr z) (has_of fr bool x h)
    (both_true (stmts_lawful fr y) (stmts_lawful fr z) k l)

then_lawful : (fr : Frame) (a : Option typed_stmt.PlainStmt) (b : Option typed_stmt.PlainStmts) → StmtIf fr a
    → BlockIf fr b → BlockIf fr (then_stmt a b)
then_lawful fr None b h k = tt
then_lawful fr (Some x) None h k = tt
then_lawful fr (Some x) (Some y) h k = both_true (stmt_lawful fr x) (stmts_lawful fr y) h k

-- what stands at a place in a body, where all its locals have these types
record At (fr : Frame) (b : Body) (types : Types) (s after : State) : Type 0 where
  frame : IsBodyFrame fr b types
  inside : Front after.types types
  locals : AreNumbered s.types s.locals

at_start : (fr : Frame) (b : Body) (types : Types) (s after : State) → IsAfter s after → At fr b types s after
    → IsFrameOf fr (env_of b s)
at_start fr b types s after g a =
    frame_of_env fr b types s a.frame (front_then s.types after.types types g.grows a.inside) a.locals

at_first : (fr : Frame) (b : Body) (types : Types) (s mid after : State) → IsAfter mid after → At fr b types s after
    → At fr b types s mid
at_first fr b types s mid after g a =
    record { frame = a.frame; inside = front_then mid.types after.types types g.grows a.inside; locals = a.locals }

at_second : (fr : Frame) (b : Body) (types : Types) (s mid after : State) → IsAfter s mid → At fr b types s after
    → At fr b types mid after
at_second fr b types s mid after g a = record { frame = a.frame; inside = a.inside; locals = g.locals a.locals }

mutual
  stmt_sound : (fr : Frame) (b : Body) (types : Types) (n : ℕ) (s : State) (x : PlainStmt)
      → At fr b types s (stmt_done b s x).after → LimitedStmt n x → StmtIf fr (stmt_done b s x).typed
  stmt_sound fr b types n s (let_stmt l) a k =
      let g = stmt_after b s (let_stmt l) in
      let e = judge_lawful fr (env_of b s) (at_start fr b types s (stmt_done b s (let_stmt l)).after g a) l.value
      (k.1).1 in
      let_lawful fr (length s.types) (written b.site l.ty).of (judge (env_of b s) l.value)
      (local_at fr types (s.types ++ (written b.site l.ty).of ∷ []) (length s.types) (written b.site l.ty).of
      (a.frame).known a.inside (get_last s.types (written b.site l.ty).of)) e
  stmt_sound fr b types n s (if_stmt f) a k = if_sound fr b types n s f a k
  stmt_sound fr b types n s (while_stmt at test body) a k =
      let f = at_start fr b types s (block_done b s body).after (block_after b s body) a in
      loop_lawful fr (fitting bool (judge (env_of b s) test)) (block_done b s body).typed
      (fitting_has fr bool (judge (env_of b s) test).typed (judge_lawful fr (env_of b s) f test (k.0).1))
      (block_sound fr b types n s body a k.1)
  stmt_sound fr b types n s (return_stmt at value to) a k =
      return_lawful fr b types s at value a.frame
      (at_start fr b types s (stmt_done b s (return_stmt at value to)).after (stmt_after b s (return_stmt at value to))
      a) k
  stmt_sound fr b types n s (print_stmt x) a k =
      print_lawful fr (fitting int (judge (env_of b s) x.value))
      (fitting_has fr int (judge (env_of b s) x.value).typed
      (judge_lawful fr (env_of b s) (frame_of_env fr b types s a.frame a.inside a.locals) x.value k.1))
  stmt_sound fr b types n s (assert_stmt x) a k =
      assert_lawful fr x.keyword (fitting bool (judge (assert_env b s) x.value))
      (fitting_has fr bool (judge (assert_env b s) x.value).typed
      (judge_lawful fr (assert_env b s) (frame_of_assert fr b types s a.frame a.inside a.locals) x.value k.1))
      (fitting_keeps (λ (e : typed.PlainExpr). is_static e ≡ true) bool (judge (assert_env b s) x.value).typed
      (judge_static b.site s.locals x.value))
  stmt_sound fr b types n s (expr_stmt e setting to) a k =
      expr_lawful fr b s e setting
      (at_start fr b types s (stmt_done b s (expr_stmt e setting to)).after (stmt_after b s (expr_stmt e setting to)) a)
      k.0 k.1

  block_sound : (fr : Frame) (b : Body) (types : Types) (n : ℕ) (s : State) (x : PlainBlock)
      → At fr b types s (block_done b s x).after → LimitedBlock n x → BlockIf fr (block_done b s x).typed
  block_sound fr b types n s (block from xs to) a k =
      stmts_sound fr b types _ s xs (record { frame = a.frame; inside = a.inside; locals = a.locals }) k.1

  stmts_sound : (fr : Frame) (b : Body) (types : Types) (n : ℕ) (s : State) (xs : PlainStmts)
      → At fr b types s (stmts_done b s xs).after → LimitedStmts n xs → BlockIf fr (stmts_done b s xs).typed
  stmts_sound fr b types n s no_stmts a k = refl
  stmts_sound fr b types n s (stmts x xs) a k =
      let mid = (stmt_done b s x).after in
      let last = (stmts_done b mid xs).after in
      then_lawful fr (stmt_done b s x).typed (stmts_done b mid xs).typed
      (stmt_sound fr b types n s x (at_first fr b types s mid last (stmts_after b mid xs) a) k.0)
      (stmts_sound fr b types n mid xs (at_second fr b types s mid last (stmt_after b s x) a) k.1)

  if_sound : (fr : Frame) (b : Body) (types : Types) (n : ℕ) (s : State) (f : PlainIf)
      → At fr b types s (if_done b s f).after → LimitedIf n f → StmtIf fr (if_done b s f).typed
  if_sound fr b types n s (fork at test body other) a k =
      let mid = (block_done b s body).after in
      let last = (else_done b mid other).after in
      let f = at_start fr b types s last (if_after b s (fork at test body other)) a in
      fork_lawful fr (fitting bool (judge (env_of b s) test)) (block_done b s body).typed (else_done b mid other).typed
      (fitting_has fr bool (judge (env_of b s) test).typed (judge_lawful fr (env_of b s) f test (k.0).1))
      (block_sound fr b types n s body (at_first fr b types s mid last (else_after b mid other) a) k.1)
      (else_sound fr b types n mid other (at_second fr b types s mid last (block_after b s body) a) k.2)

  else_sound : (fr : Frame) (b : Body) (types : Types) (n : ℕ) (s : State) (x : PlainElse)
      → At fr b types s (else_done b s x).after → LimitedElse n x → BlockIf fr (else_done b s x).typed
  else_sound fr b types n s no_else a k = refl
  else_sound fr b types n s (else_block at body) a k = block_sound fr b types n s body a k
  else_sound fr b types n s (else_if at f) a k =
      then_lawful fr (if_done b s f).typed (Some typed_stmt.no_stmts) (if_sound fr b types _ s f a k.1) refl

-- the body of a function, from the types of its parameters
pub body_lawful : (fr : Frame) (b : Body) (s : State) (n : ℕ) (x : PlainBlock)
    → IsBodyFrame fr b (block_done b s x).after.types → AreNumbered s.types s.locals → LimitedBlock n x
    → BlockIf fr (block_done b s x).typed
body_lawful fr b s n x bf h k =
    block_sound fr b (block_done b s x).after.types n s x
    (record { frame = bf; inside = front_self (block_done b s x).after.types; locals = h }) k
