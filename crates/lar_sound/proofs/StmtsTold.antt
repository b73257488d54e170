-- A statement without a fault is known, and so is the state after it, where all names are.
use Rattle.std.proofs.Common.{◌≡◌, ℕ, sym, Bool, true, false, true≢false, List, [], ◌∷◌, ◌++◌, length, Option, Some, None}
use Rattle.lar_source.specs.declared.file.Span.{Span}
use Rattle.type_table.specs.TypeOf.{TypeOf, int, bool, end, tuple}
use Rattle.lar_typed.specs.Exprs as typed
use Rattle.lar_typed.specs.Stmts as typed_stmt
use Rattle.lar_typed.specs.SameType.{same_type}
use Rattle.lar_tree.specs.declared.name.Path.{Path}
use Rattle.lar_tree.specs.declared.expr.Selector.{Selector}
use Rattle.lar_tree.specs.Stmts.{IfThere, PlainLet, PlainSetting, PlainStmt, let_stmt, if_stmt, while_stmt, return_stmt, print_stmt, assert_stmt, expr_stmt, PlainBlock, block, PlainStmts, no_stmts, stmts, PlainIf, fork, PlainElse, no_else, else_block, else_if}
use Rattle.lar_tree.specs.Lawful.{Every}
use Rattle.lar_tree.specs.Exprs as plain
use Rattle.lar_rules.specs.Fault.{Fault}
use Rattle.lar_rules.specs.Written.{Written, written}
use Rattle.lar_rules.specs.Judged.{Local, Env, Judged, misfit, fitting, misfit_if, fitting_if, other_type, judged_if}
use Rattle.lar_rules.specs.Exprs.{ValueName, a_local, a_number, a_constant, no_value, value_named, local_typed, judged_local, judged_path, Part, part_selected, part_typed, judged_part, judged_field_of, judge}
use Rattle.lar_rules.specs.Bodies.{Body, State, env_of, assert_env, Done, closed, let_done, of_type, return_misfit, return_typed, return_done, is_local, is_place, misplaced, label_if, Target, one_further, target_of, target_if, assigned, assign_done, expr_done, loop_typed, fork_typed, then_stmt, after_test, forked, sequel, only, in_block, stmt_done, block_done, stmts_done, if_done, else_done}
use Rattle.lar_sound.specs.Known.{IsKnown, IsFaultless, IsTold}
use Rattle.lar_sound.specs.KnownNames.{AreNamesKnown, IsBodyKnown, IsStateKnown}
use Rattle.lar_sound.proofs.Known.{faultless_parts, known_map, fit_told, told_true}
use Rattle.lar_sound.proofs.WrittenTold.{written_told}
use Rattle.lar_sound.proofs.ExprsTold.{JudgedTold, misfit_told, misfit_if_told, judge_told}

abbrev pub DoneTold : {A : Type 0} → Done A → Type 0
DoneTold d = IsFaultless d.faults → IsKnown d.typed × IsStateKnown d.after

every_then : (ts : List (Option TypeOf)) (t : Option TypeOf) → Every (λ (x : Option TypeOf). IsKnown x) ts → IsKnown t
    → Every (λ (x : Option TypeOf). IsKnown x) (ts ++ t ∷ [])
every_then [] t h k = (k, tt)
every_then (x ∷ xs) t h k = (h.0, every_then xs t h.1 k)

names_of_state : (b : Body) (s : State) → IsBodyKnown b → IsStateKnown s → AreNamesKnown (env_of b s)
names_of_state b s bk sk = record { items = bk.items; locals = sk.locals }

names_of_assert : (b : Body) (s : State) → IsBodyKnown b → IsStateKnown s → AreNamesKnown (assert_env b s)
names_of_assert b s bk sk = record { items = bk.items; locals = sk.locals }

let_told : (b : Body) (s : State) (l : PlainLet) (w : Written) (j : Judged) → IsStateKnown s → IsTold w.of w.faults
    → JudgedTold j → DoneTold (let_done b s l w j)
let_told b s l w j sk tw tj h =
    let p = faultless_parts w.faults (j.faults ++ misfit_if b.site w.of j) h in
    let q = faultless_parts j.faults (misfit_if b.site w.of j) p.1 in
    let k = tw p.0 in (
      known_map (typed_stmt.let_local (length s.types)) (fitting_if w.of j)
          (misfit_if_told b.site w.of j k (tj q.0) q.1),
      record { locals = (k, sk.locals); types = every_then s.types w.of sk.types k },
    )

of_type_told : (b : Body) (s : State) (t : TypeOf) (made : typed.PlainExpr → typed_stmt.PlainStmt) (j : Judged)
    → IsStateKnown s → JudgedTold j → DoneTold (of_type b s t made j)
of_type_told b s t made j sk tj h =
    let p = faultless_parts j.faults (misfit b.site t j) h in
    (known_map made (fitting t j) (misfit_told b.site t j.at j.typed (tj p.0) p.1), sk)

nothing_told : (b : Body) (at : Span) (o : Option TypeOf) → IsKnown o → IsFaultless (return_misfit b at o)
    → IsKnown (return_typed o)
nothing_told b at None k h = absurd k
nothing_told b at (Some t) k h =
    fit_told (same_type (tuple end) t) (other_type b.site at t (tuple end)) typed_stmt.return_nothing h

return_told : (b : Body) (s : State) (at : Span) (o : Option plain.PlainExpr) → IsBodyKnown b → IsStateKnown s
    → DoneTold (return_done b s at o)
return_told b s at None bk sk h = (nothing_told b at b.outcome bk.outcome h, sk)
return_told b s at (Some e) bk sk h =
    let p = faultless_parts (judge (env_of b s) e).faults (misfit_if b.site b.outcome (judge (env_of b s) e)) h in (
      known_map typed_stmt.return_value (fitting_if b.outcome (judge (env_of b s) e))
          (misfit_if_told b.site b.outcome (judge (env_of b s) e) bk.outcome
          (judge_told (env_of b s) (names_of_state b s bk sk) e p.0) p.1),
      sk,
    )

-- PLACES

abbrev TargetKnown : typed.PlainExpr → Type 0
TargetKnown e = IsKnown (target_of e)

local_target : (l : Local) (o : Option TypeOf) → IfThere TargetKnown (local_typed l o)
local_target l None = tt
local_target l (Some t) = tt

meant_target : (env : Env) (p : Path) (l : Local) (b : Bool) → IfThere TargetKnown (judged_local env p l b).typed
meant_target env p l true = tt
meant_target env p l false = local_target l l.of

path_target : (env : Env) (p : Path) (v : ValueName) → is_local v ≡ true
    → IfThere TargetKnown (judged_path env p v).typed
path_target env p (a_local l) h = meant_target env p l env.asserting
path_target env p (a_number k) h = absurd (true≢false (sym h))
path_target env p (a_constant n) h = absurd (true≢false (sym h))
path_target env p no_value h = tt

further_known : (k : ℕ) (t : TypeOf) (o : Option Target) → IsKnown o → IsKnown (one_further k t o)
further_known k t None h = absurd h
further_known k t (Some p) h = tt

if_target : (b : Bool) (at : Span) (e : Option typed.PlainExpr) (fs rs : List Fault) → IfThere TargetKnown e
    → IfThere TargetKnown (judged_if b at e fs rs).typed
if_target true at e fs rs h = tt
if_target false at e fs rs h = h

part_target : (e : typed.PlainExpr) (k : ℕ) (o : Option TypeOf) → TargetKnown e → IfThere TargetKnown (part_typed e k o)
part_target e k None h = tt
part_target e k (Some t) h = further_known k t (target_of e) h

selected_target : (env : Env) (at : Span) (fs : List Fault) (s : Selector) (e : typed.PlainExpr) (o : Option Part)
    → TargetKnown e → IfThere TargetKnown (judged_part env at fs s e o).typed
selected_target env at fs s e None h = if_target env.asserting at None _ _ tt
selected_target env at fs s e (Some p) h =
    if_target env.asserting at (part_typed e p.0 p.1) fs _ (part_target e p.0 p.1 h)

field_target : (env : Env) (e : Judged) (s : Selector) (o : Option typed.PlainExpr) → IfThere TargetKnown o
    → IfThere TargetKnown (judged_field_of env e s o).typed
field_target env e s None h = if_target env.asserting e.at None e.faults _ tt
field_target env e s (Some x) h =
    selected_target env e.at e.faults s x (part_selected env.site.all (typed.label_of x) s) h

place_target : (env : Env) (e : plain.PlainExpr) → is_place env e ≡ true → IfThere TargetKnown (judge env e).typed
place_target env (plain.path p) h = path_target env p (value_named env p) h
place_target env (plain.field inner dot s) h =
    field_target env (judge env inner) s (judge env inner).typed (place_target env inner h)
place_target env (plain.number n at) h = absurd (true≢false (sym h))
place_target env (plain.truth at) h = absurd (true≢false (sym h))
place_target env (plain.untruth at) h = absurd (true≢false (sym h))
place_target env (plain.paren from ps to) h = absurd (true≢false (sym h))
place_target env (plain.new_struct at p generics from is to) h = absurd (true≢false (sym h))
place_target env (plain.call p generics from ps to) h = absurd (true≢false (sym h))
place_target env (plain.unary_of op at inner) h = absurd (true≢false (sym h))
place_target env (plain.binary_of left op at right) h = absurd (true≢false (sym h))

target_known : (o : Option typed.PlainExpr) → IsKnown o → IfThere TargetKnown o → IsKnown (target_if o)
target_known None k h = absurd k
target_known (Some e) k h = h

label_known : (o : Option typed.PlainExpr) → IsKnown o → IsKnown (label_if o)
label_known None k = absurd k
label_known (Some e) k = tt

assigned_known : (a : Option Target) (b : Option typed.PlainExpr) → IsKnown a → IsKnown b → IsKnown (assigned a b)
assigned_known None b h k = absurd h
assigned_known (Some x) None h k = absurd k
assigned_known (Some x) (Some y) h k = tt

assign_told : (b : Body) (s : State) (place : plain.PlainExpr) (r : Judged) → IsBodyKnown b → IsStateKnown s
    → JudgedTold r → DoneTold (assign_done b s place (judge (env_of b s) place) r)
assign_told b s place r bk sk tr h =
    let l = judge (env_of b s) place in
    let p = faultless_parts l.faults
    (misplaced (env_of b s) place l.at ++ (r.faults ++ misfit_if b.site (label_if l.typed) r)) h in
    let q = faultless_parts (misplaced (env_of b s) place l.at) (r.faults ++ misfit_if b.site (label_if l.typed) r)
    p.1 in
    let u = faultless_parts r.faults (misfit_if b.site (label_if l.typed) r) q.1 in
    let k = judge_told (env_of b s) (names_of_state b s bk sk) place p.0 in (
      assigned_known (target_if l.typed) (fitting_if (label_if l.typed) r)
          (target_known l.typed k (place_target (env_of b s) place (told_true (is_place (env_of b s) place) _ q.0)))
          (misfit_if_told b.site (label_if l.typed) r (label_known l.typed k) (tr u.0) u.1),
      sk,
    )

expr_told : (b : Body) (s : State) (e : plain.PlainExpr) (o : Option PlainSetting) → IsBodyKnown b → IsStateKnown s
    → DoneTold (expr_done b s e o)
expr_told b s e None bk sk h = (
  known_map typed_stmt.eval (judge (env_of b s) e).typed (judge_told (env_of b s) (names_of_state b s bk sk) e h),
  sk,
)
expr_told b s e (Some a) bk sk h =
    assign_told b s e (judge (env_of b s) a.1) bk sk (judge_told (env_of b s) (names_of_state b s bk sk) a.1) h

-- BLOCKS

loop_known : (a : Option typed.PlainExpr) (b : Option typed_stmt.PlainStmts) → IsKnown a → IsKnown b
    → IsKnown (loop_typed a b)
loop_known None b h k = absurd h
loop_known (Some x) None h k = absurd k
loop_known (Some x) (Some y) h k = tt

fork_known : (c : Option typed.PlainExpr) (a b : Option typed_stmt.PlainStmts) → IsKnown c → IsKnown a → IsKnown b
    → IsKnown (fork_typed c a b)
fork_known None a b g h k = absurd g
fork_known (Some x) None b g h k = absurd h
fork_known (Some x) (Some y) None g h k = absurd k
fork_known (Some x) (Some y) (Some z) g h k = tt

then_known : (a : Option typed_stmt.PlainStmt) (b : Option typed_stmt.PlainStmts) → IsKnown a → IsKnown b
    → IsKnown (then_stmt a b)
then_known None b h k = absurd h
then_known (Some x) None h k = absurd k
then_known (Some x) (Some y) h k = tt

closed_known : (before after : State) → IsStateKnown before → IsStateKnown after → IsStateKnown (closed before after)
closed_known before after b a = record { locals = b.locals; types = a.types }

test_told : (b : Body) (c : Judged) (a : Done typed_stmt.PlainStmts) → JudgedTold c → DoneTold a
    → DoneTold (after_test b c a)
test_told b c a tc ta h =
    let p = faultless_parts c.faults (misfit b.site bool c ++ a.faults) h in
    let q = faultless_parts (misfit b.site bool c) a.faults p.1 in
    let w = ta q.1 in
    (loop_known (fitting bool c) a.typed (misfit_told b.site bool c.at c.typed (tc p.0) q.0) w.0, w.1)

forked_told : (b : Body) (c : Judged) (x y : Done typed_stmt.PlainStmts) → JudgedTold c → DoneTold x
    → (IsStateKnown x.after → DoneTold y) → DoneTold (forked b c x y)
forked_told b c x y tc tx ty h =
    let p = faultless_parts c.faults (misfit b.site bool c ++ (x.faults ++ y.faults)) h in
    let q = faultless_parts (misfit b.site bool c) (x.faults ++ y.faults) p.1 in
    let r = faultless_parts x.faults y.faults q.1 in
    let v = tx r.0 in
    let w = ty v.1 r.1 in
    (fork_known (fitting bool c) x.typed y.typed (misfit_told b.site bool c.at c.typed (tc p.0) q.0) v.0 w.0, w.1)

sequel_told : (x : Done typed_stmt.PlainStmt) (y : Done typed_stmt.PlainStmts) → DoneTold x
    → (IsStateKnown x.after → DoneTold y) → DoneTold (sequel x y)
sequel_told x y tx ty h =
    let p = faultless_parts x.faults y.faults h in
    let v = tx p.0 in
    let w = ty v.1 p.1 in
    (then_known x.typed y.typed v.0 w.0, w.1)

only_told : (x : Done typed_stmt.PlainStmt) → DoneTold x → DoneTold (only x)
only_told x tx h = let v = tx h in (then_known x.typed (Some typed_stmt.no_stmts) v.0 tt, v.1)

block_told : (s : State) (d : Done typed_stmt.PlainStmts) → IsStateKnown s → DoneTold d → DoneTold (in_block s d)
block_told s d sk td h = let v = td h in (v.0, closed_known s d.after sk v.1)

mutual
  pub stmt_told : (b : Body) → IsBodyKnown b → (s : State) → IsStateKnown s → (x : PlainStmt)
      → DoneTold (stmt_done b s x)
  stmt_told b bk s sk (let_stmt l) =
      let_told b s l (written b.site l.ty) (judge (env_of b s) l.value) sk (written_told b.site l.ty)
      (judge_told (env_of b s) (names_of_state b s bk sk) l.value)
  stmt_told b bk s sk (if_stmt f) = if_told b bk s sk f
  stmt_told b bk s sk (while_stmt at test body) =
      test_told b (judge (env_of b s) test) (block_done b s body)
      (judge_told (env_of b s) (names_of_state b s bk sk) test) (body_told b bk s sk body)
  stmt_told b bk s sk (return_stmt at value to) = return_told b s at value bk sk
  stmt_told b bk s sk (print_stmt a) =
      of_type_told b s int typed_stmt.print (judge (env_of b s) a.value) sk
      (judge_told (env_of b s) (names_of_state b s bk sk) a.value)
  stmt_told b bk s sk (assert_stmt a) =
      of_type_told b s bool _ (judge (assert_env b s) a.value) sk
      (judge_told (assert_env b s) (names_of_assert b s bk sk) a.value)
  stmt_told b bk s sk (expr_stmt e setting to) = expr_told b s e setting bk sk

  pub body_told : (b : Body) → IsBodyKnown b → (s : State) → IsStateKnown s → (x : PlainBlock)
      → DoneTold (block_done b s x)
  body_told b bk s sk (block from ss to) = block_told s (stmts_done b s ss) sk (stmts_told b bk s sk ss)

  stmts_told : (b : Body) → IsBodyKnown b → (s : State) → IsStateKnown s → (xs : PlainStmts)
      → DoneTold (stmts_done b s xs)
  stmts_told b bk s sk no_stmts = λ h. (tt, sk)
  stmts_told b bk s sk (stmts x xs) =
      sequel_told (stmt_done b s x) (stmts_done b (stmt_done b s x).after xs) (stmt_told b bk s sk x)
      (λ k. stmts_told b bk (stmt_done b s x).after k xs)

  if_told : (b : Body) → IsBodyKnown b → (s : State) → IsStateKnown s → (f : PlainIf) → DoneTold (if_done b s f)
  if_told b bk s sk (fork at test body other) =
      forked_told b (judge (env_of b s) test) (block_done b s body) (else_done b (block_done b s body).after other)
      (judge_told (env_of b s) (names_of_state b s bk sk) test) (body_told b bk s sk body)
      (λ k. else_told b bk (block_done b s body).after k other)

  else_told : (b : Body) → IsBodyKnown b → (s : State) → IsStateKnown s → (x : PlainElse) → DoneTold (else_done b s x)
  else_told b bk s sk no_else = λ h. (tt, sk)
  else_told b bk s sk (else_block at body) = body_told b bk s sk body
  else_told b bk s sk (else_if at f) = only_told (if_done b s f) (if_told b bk s sk f)
