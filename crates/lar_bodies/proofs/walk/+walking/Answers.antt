use Rattle.std.proofs.Common.{◌∙◌, ap, sym, refl, subst, rules, Some}
use Rattle.std.proofs.lemmas.Result.{IfOk-weaker, on_ok_weaker}
use Rattle.lar_tree.specs.declared.stmt.Stmt.{the_lemmas}
use Rattle.lar_tree.specs.ExprView.{expr_view}
use Rattle.lar_tree.specs.Stmts.{no_else}
use Rattle.lar_tree.specs.StmtView.{block_view, stmts_view, else_view}
use Rattle.lar_typed.specs.Stmts.{PlainStmt, PlainStmts}
use Rattle.lar_rules.specs.Exprs.{judge}
use Rattle.lar_rules.specs.Fault.{least}
use Rattle.lar_rules.specs.Bodies.{State, Done, env_of, block_done, stmts_done, else_done}
use Rattle.lar_judge.specs.Known.{IfWithin}
use Rattle.lar_judge.proofs.Kept.{type_within_kept}
use Rattle.lar_judge.proofs.Rows.{keeps_twice}
use Rattle.lar_stmts.specs.States.{body_in, state_in, StateWithin, StateIs}
use Rattle.lar_stmts.specs.Stmts.{StmtIs, StmtsIs}
use Rattle.lar_stmts.proofs.Declaring.{state_within_kept, state_kept}
use Rattle.lar_bodies.proofs.Blocks.{closed_is, typed_further, after_further, told_further, all_typed, all_after, all_told}
use Rattle.lar_bodies.proofs.Forks.{fork_is, fork_told, loop_is, loop_told, none_told}
use Rattle.lar_bodies.proofs.Kept.{ok_always, body_kept, unchanged, keeps_all, none_is, longer_twice, same_longer}
use Rattle.lar_bodies.proofs.Views.{block_after, block_same, else_same, if_none, if_some, while_same, while_told, after_return, after_print, after_assert, after_expr}
use Rattle.lar_bodies.proofs.walk.+walking.Goals as goal

pub block_walked-returns-clause-after : goal.block_walked-returns-clause-after
block_walked-returns-clause-after g t c =
    let old = c.args.types.now in
    let body = body_in old (g.S.Site.site c.args.context.now.site.now) c.args.context.now.outcome in
    let state = state_in old c.args.state.now in
    let new = c.stmts_walked.new.types in
    subst (λ (d : State). StateIs new (record { locals = c.leave.new.self; types = c.stmts_walked.new.state.types }) d) (block_after body state c.args.block.now c.as_slice.result.now c.as_slice.ensures)
    (closed_is old new c.args.state.now c.stmts_walked.new.state (record { locals = c.leave.new.self; types = c.stmts_walked.new.state.types }) (stmts_done body state (stmts_view c.as_slice.result.now)).after c.len-outside.result c.stmts_walked.ensures.kept c.requires.state c.in_ok-done.ensures.after c.in_ok-done.ensures.scope c.len-outside.ensures c.leave.ensures refl)

pub if_walked-block_walked-requires : goal.if_walked-block_walked-requires
if_walked-block_walked-requires g t c =
    let stands = g.S.Site.grows c.args.context.now.site.now c.args.types.now c.condition.new.types c.condition.ensures.kept c.requires.stands in
    let state : StateWithin c.condition.new.types c.args.state.now = state_within_kept c.args.types.now c.condition.new.types c.args.state.now c.condition.ensures.kept c.requires.state in
    let outcome : IfWithin c.condition.new.types c.args.context.now.outcome = type_within_kept c.args.types.now c.condition.new.types c.args.context.now.outcome c.condition.ensures.kept c.requires.outcome in
    search (rules, the_lemmas)

pub while_walked-block_walked-requires : goal.while_walked-block_walked-requires
while_walked-block_walked-requires g t c =
    let stands = g.S.Site.grows c.args.context.now.site.now c.args.types.now c.condition.new.types c.condition.ensures.kept c.requires.stands in
    let state : StateWithin c.condition.new.types c.args.state.now = state_within_kept c.args.types.now c.condition.new.types c.args.state.now c.condition.ensures.kept c.requires.state in
    let outcome : IfWithin c.condition.new.types c.args.context.now.outcome = type_within_kept c.args.types.now c.condition.new.types c.args.context.now.outcome c.condition.ensures.kept c.requires.outcome in
    search (rules, the_lemmas)

pub if_walked-returns-in-None-clause-typed : goal.if_walked-returns-in-None-clause-typed
if_walked-returns-in-None-clause-typed g t c =
    let old = c.args.types.now in
    let body = body_in old (g.S.Site.site c.args.context.now.site.now) c.args.context.now.outcome in
    let state = state_in old c.args.state.now in
    let mid = c.condition.new.types in
    let back = c.block_walked.new.types in
    let there = body_kept old mid (g.S.Site.site c.args.context.now.site.now) c.args.context.now.outcome c.condition.ensures.kept c.requires.outcome in
    let here = state_kept old mid c.args.state.now c.condition.ensures.kept c.requires.state in
    let same = block_same body _ state _ (block_view c.args.it.now.«then») there here in
    subst (λ (d : Done PlainStmt). StmtIs back c.fork.result d.typed) (if_none body state c.args.it.now c.in-None.is)
    (fork_is mid back back body (judge (env_of body state) (expr_view c.args.it.now.test)) (block_done body state (block_view c.args.it.now.«then»)) (else_done body (block_done body state (block_view c.args.it.now.«then»)).after no_else) c.in_ok-test.test c.in_ok-then.then (Some c.new.result) c.fork.result c.block_walked.ensures.kept (keeps_all back) c.block_walked.ensures.kept c.in_ok-test.ensures.within c.in_ok-test.ensures.is
    (subst (λ (d : Done PlainStmts). StmtsIs back c.in_ok-then.then d.typed) same c.in_ok-then.ensures.typed) (none_is back c.new.result c.new.ensures) (c.fork.ensures.within back) (c.fork.ensures.is back))

pub if_walked-returns-in-None-clause-after : goal.if_walked-returns-in-None-clause-after
if_walked-returns-in-None-clause-after g t c =
    let old = c.args.types.now in
    let body = body_in old (g.S.Site.site c.args.context.now.site.now) c.args.context.now.outcome in
    let state = state_in old c.args.state.now in
    let mid = c.condition.new.types in
    let back = c.block_walked.new.types in
    let there = body_kept old mid (g.S.Site.site c.args.context.now.site.now) c.args.context.now.outcome c.condition.ensures.kept c.requires.outcome in
    let here = state_kept old mid c.args.state.now c.condition.ensures.kept c.requires.state in
    let same = block_same body _ state _ (block_view c.args.it.now.«then») there here in
    subst (λ (d : Done PlainStmt). StateIs back c.block_walked.new.state d.after) (if_none body state c.args.it.now c.in-None.is) (subst (λ (d : Done PlainStmts). StateIs back c.block_walked.new.state d.after) same c.in_ok-then.ensures.after)

pub if_walked-returns-in-None-clause-told : goal.if_walked-returns-in-None-clause-told
if_walked-returns-in-None-clause-told g t c =
    let old = c.args.types.now in
    let body = body_in old (g.S.Site.site c.args.context.now.site.now) c.args.context.now.outcome in
    let state = state_in old c.args.state.now in
    let mid = c.condition.new.types in
    let back = c.block_walked.new.types in
    let there = body_kept old mid (g.S.Site.site c.args.context.now.site.now) c.args.context.now.outcome c.condition.ensures.kept c.requires.outcome in
    let here = state_kept old mid c.args.state.now c.condition.ensures.kept c.requires.state in
    let same = block_same body _ state _ (block_view c.args.it.now.«then») there here in
    fork_told body (judge (env_of body state) (expr_view c.args.it.now.test)) (block_done body state (block_view c.args.it.now.«then»)) (else_done body (block_done body state (block_view c.args.it.now.«then»)).after no_else) c.args.first.now c.condition.new.first c.block_walked.new.first c.block_walked.new.first c.in_ok-test.ensures.told (c.in_ok-then.ensures.told ∙ ap (λ (d : Done PlainStmts). least c.condition.new.first d.faults) same) (none_told c.block_walked.new.first)
    ∙ ap (λ (d : Done PlainStmt). least c.args.first.now d.faults) (if_none body state c.args.it.now c.in-None.is)

pub if_walked-returns-in_ok-other-in-Some-clause-typed : goal.if_walked-returns-in_ok-other-in-Some-clause-typed
if_walked-returns-in_ok-other-in-Some-clause-typed g t c =
    let old = c.args.types.now in
    let body = body_in old (g.S.Site.site c.args.context.now.site.now) c.args.context.now.outcome in
    let state = state_in old c.args.state.now in
    let mid = c.condition.new.types in
    let back = c.block_walked.new.types in
    let there = body_kept old mid (g.S.Site.site c.args.context.now.site.now) c.args.context.now.outcome c.condition.ensures.kept c.requires.outcome in
    let here = state_kept old mid c.args.state.now c.condition.ensures.kept c.requires.state in
    let same = block_same body _ state _ (block_view c.args.it.now.«then») there here in
    let new = c.else_walked.new.types in
    let further = body_kept old back (g.S.Site.site c.args.context.now.site.now) c.args.context.now.outcome (keeps_twice old mid back c.condition.ensures.kept c.block_walked.ensures.kept) c.requires.outcome in
    let after = (subst (λ (d : Done PlainStmts). StateIs back c.block_walked.new.state d.after) same c.in_ok-then.ensures.after) in
    let other = else_same body _ (block_done body state (block_view c.args.it.now.«then»)).after _ (else_view c.get.result.now) further after.is in
    let is = if_some body state c.args.it.now c.get.result.now (c.in-Some.is ∙ ap Some (sym c.get.ensures)) in
    subst (λ (d : Done PlainStmt). StmtIs new c.fork-in-Some.result d.typed) is
    (fork_is mid back new body (judge (env_of body state) (expr_view c.args.it.now.test)) (block_done body state (block_view c.args.it.now.«then»)) (else_done body (block_done body state (block_view c.args.it.now.«then»)).after (else_view c.get.result.now)) c.in_ok-test.test c.in_ok-then.then c.in_ok-other-in-Some.other c.fork-in-Some.result c.block_walked.ensures.kept c.else_walked.ensures.kept (keeps_twice mid back new c.block_walked.ensures.kept c.else_walked.ensures.kept) c.in_ok-test.ensures.within c.in_ok-test.ensures.is
    (subst (λ (d : Done PlainStmts). StmtsIs back c.in_ok-then.then d.typed) same c.in_ok-then.ensures.typed) (subst (λ (d : Done PlainStmts). StmtsIs new c.in_ok-other-in-Some.other d.typed) other c.in_ok-other-in-Some.ensures.typed) (c.fork-in-Some.ensures.within new) (c.fork-in-Some.ensures.is new))

pub if_walked-returns-in_ok-other-in-Some-clause-after : goal.if_walked-returns-in_ok-other-in-Some-clause-after
if_walked-returns-in_ok-other-in-Some-clause-after g t c =
    let old = c.args.types.now in
    let body = body_in old (g.S.Site.site c.args.context.now.site.now) c.args.context.now.outcome in
    let state = state_in old c.args.state.now in
    let mid = c.condition.new.types in
    let back = c.block_walked.new.types in
    let there = body_kept old mid (g.S.Site.site c.args.context.now.site.now) c.args.context.now.outcome c.condition.ensures.kept c.requires.outcome in
    let here = state_kept old mid c.args.state.now c.condition.ensures.kept c.requires.state in
    let same = block_same body _ state _ (block_view c.args.it.now.«then») there here in
    let new = c.else_walked.new.types in
    let further = body_kept old back (g.S.Site.site c.args.context.now.site.now) c.args.context.now.outcome (keeps_twice old mid back c.condition.ensures.kept c.block_walked.ensures.kept) c.requires.outcome in
    let after = (subst (λ (d : Done PlainStmts). StateIs back c.block_walked.new.state d.after) same c.in_ok-then.ensures.after) in
    let other = else_same body _ (block_done body state (block_view c.args.it.now.«then»)).after _ (else_view c.get.result.now) further after.is in
    let is = if_some body state c.args.it.now c.get.result.now (c.in-Some.is ∙ ap Some (sym c.get.ensures)) in
    subst (λ (d : Done PlainStmt). StateIs new c.else_walked.new.state d.after) is (subst (λ (d : Done PlainStmts). StateIs new c.else_walked.new.state d.after) other c.in_ok-other-in-Some.ensures.after)

pub if_walked-returns-in_ok-other-in-Some-clause-told : goal.if_walked-returns-in_ok-other-in-Some-clause-told
if_walked-returns-in_ok-other-in-Some-clause-told g t c =
    let old = c.args.types.now in
    let body = body_in old (g.S.Site.site c.args.context.now.site.now) c.args.context.now.outcome in
    let state = state_in old c.args.state.now in
    let mid = c.condition.new.types in
    let back = c.block_walked.new.types in
    let there = body_kept old mid (g.S.Site.site c.args.context.now.site.now) c.args.context.now.outcome c.condition.ensures.kept c.requires.outcome in
    let here = state_kept old mid c.args.state.now c.condition.ensures.kept c.requires.state in
    let same = block_same body _ state _ (block_view c.args.it.now.«then») there here in
    let new = c.else_walked.new.types in
    let further = body_kept old back (g.S.Site.site c.args.context.now.site.now) c.args.context.now.outcome (keeps_twice old mid back c.condition.ensures.kept c.block_walked.ensures.kept) c.requires.outcome in
    let after = (subst (λ (d : Done PlainStmts). StateIs back c.block_walked.new.state d.after) same c.in_ok-then.ensures.after) in
    let other = else_same body _ (block_done body state (block_view c.args.it.now.«then»)).after _ (else_view c.get.result.now) further after.is in
    let is = if_some body state c.args.it.now c.get.result.now (c.in-Some.is ∙ ap Some (sym c.get.ensures)) in
    fork_told body (judge (env_of body state) (expr_view c.args.it.now.test)) (block_done body state (block_view c.args.it.now.«then»)) (else_done body (block_done body state (block_view c.args.it.now.«then»)).after (else_view c.get.result.now)) c.args.first.now c.condition.new.first c.block_walked.new.first c.else_walked.new.first c.in_ok-test.ensures.told (c.in_ok-then.ensures.told ∙ ap (λ (d : Done PlainStmts). least c.condition.new.first d.faults) same) (c.in_ok-other-in-Some.ensures.told ∙ ap (λ (d : Done PlainStmts). least c.block_walked.new.first d.faults) other)
    ∙ ap (λ (d : Done PlainStmt). least c.args.first.now d.faults) is

pub while_walked-returns-clause-typed : goal.while_walked-returns-clause-typed
while_walked-returns-clause-typed g t c =
    let old = c.args.types.now in
    let body = body_in old (g.S.Site.site c.args.context.now.site.now) c.args.context.now.outcome in
    let state = state_in old c.args.state.now in
    let mid = c.condition.new.types in
    let back = c.block_walked.new.types in
    let there = body_kept old mid (g.S.Site.site c.args.context.now.site.now) c.args.context.now.outcome c.condition.ensures.kept c.requires.outcome in
    let here = state_kept old mid c.args.state.now c.condition.ensures.kept c.requires.state in
    let same = block_same body _ state _ (block_view c.args.body.now) there here in
    loop_is mid back body (judge (env_of body state) (expr_view c.args.test.now)) (block_done body state (block_view c.args.body.now)) c.in_ok-test.test c.in_ok-body.body c.while_loop.result c.block_walked.ensures.kept c.in_ok-test.ensures.within c.in_ok-test.ensures.is
    (subst (λ (d : Done PlainStmts). StmtsIs back c.in_ok-body.body d.typed) same c.in_ok-body.ensures.typed) (c.while_loop.ensures.within back) (c.while_loop.ensures.is back)

pub while_walked-returns-clause-after : goal.while_walked-returns-clause-after
while_walked-returns-clause-after g t c =
    let old = c.args.types.now in
    let body = body_in old (g.S.Site.site c.args.context.now.site.now) c.args.context.now.outcome in
    let state = state_in old c.args.state.now in
    let mid = c.condition.new.types in
    let back = c.block_walked.new.types in
    let there = body_kept old mid (g.S.Site.site c.args.context.now.site.now) c.args.context.now.outcome c.condition.ensures.kept c.requires.outcome in
    let here = state_kept old mid c.args.state.now c.condition.ensures.kept c.requires.state in
    let same = block_same body _ state _ (block_view c.args.body.now) there here in
    subst (λ (d : Done PlainStmts). StateIs back c.block_walked.new.state d.after) same c.in_ok-body.ensures.after

pub while_walked-returns-clause-told : goal.while_walked-returns-clause-told
while_walked-returns-clause-told g t c =
    let old = c.args.types.now in
    let body = body_in old (g.S.Site.site c.args.context.now.site.now) c.args.context.now.outcome in
    let state = state_in old c.args.state.now in
    let mid = c.condition.new.types in
    let back = c.block_walked.new.types in
    let there = body_kept old mid (g.S.Site.site c.args.context.now.site.now) c.args.context.now.outcome c.condition.ensures.kept c.requires.outcome in
    let here = state_kept old mid c.args.state.now c.condition.ensures.kept c.requires.state in
    let same = block_same body _ state _ (block_view c.args.body.now) there here in
    loop_told body (judge (env_of body state) (expr_view c.args.test.now)) (block_done body state (block_view c.args.body.now)) c.args.first.now c.condition.new.first c.block_walked.new.first c.in_ok-test.ensures.told (c.in_ok-body.ensures.told ∙ ap (λ (d : Done PlainStmts). least c.condition.new.first d.faults) same)

pub stmt_walked-returns-in-Return-clause-after : goal.stmt_walked-returns-in-Return-clause-after
stmt_walked-returns-in-Return-clause-after g t c =
    let old = c.args.types.now in
    let body = body_in old (g.S.Site.site c.args.context.now.site.now) c.args.context.now.outcome in
    let state = state_in old c.args.state.now in
    ok_always c.return_done.result (unchanged old c.return_done.new.types c.args.state.now _ c.return_done.ensures.kept c.requires.state (after_return body state c.args.stmt.now c.in-Return.at c.in-Return.value c.in-Return.field-2 c.in-Return.is))

pub stmt_walked-returns-in-Print-clause-after : goal.stmt_walked-returns-in-Print-clause-after
stmt_walked-returns-in-Print-clause-after g t c =
    let old = c.args.types.now in
    let body = body_in old (g.S.Site.site c.args.context.now.site.now) c.args.context.now.outcome in
    let state = state_in old c.args.state.now in
    ok_always c.print_done.result (unchanged old c.print_done.new.types c.args.state.now _ c.print_done.ensures.kept c.requires.state (after_print body state c.args.stmt.now c.in-Print.asked c.in-Print.is))

pub stmt_walked-returns-in-StaticAssert-clause-after : goal.stmt_walked-returns-in-StaticAssert-clause-after
stmt_walked-returns-in-StaticAssert-clause-after g t c =
    let old = c.args.types.now in
    let body = body_in old (g.S.Site.site c.args.context.now.site.now) c.args.context.now.outcome in
    let state = state_in old c.args.state.now in
    ok_always c.assert_done.result (unchanged old c.assert_done.new.types c.args.state.now _ c.assert_done.ensures.kept c.requires.state (after_assert body state c.args.stmt.now c.in-StaticAssert.asked c.in-StaticAssert.is))

pub stmt_walked-returns-in-Expr-clause-after : goal.stmt_walked-returns-in-Expr-clause-after
stmt_walked-returns-in-Expr-clause-after g t c =
    let old = c.args.types.now in
    let body = body_in old (g.S.Site.site c.args.context.now.site.now) c.args.context.now.outcome in
    let state = state_in old c.args.state.now in
    ok_always c.expr_done.result (unchanged old c.expr_done.new.types c.args.state.now _ c.expr_done.ensures.kept c.requires.state (after_expr body state c.args.stmt.now c.in-Expr.e c.in-Expr.setting c.in-Expr.field-2 c.in-Expr.is))

pub stmt_walked-returns-in-While-clause-typed : goal.stmt_walked-returns-in-While-clause-typed
stmt_walked-returns-in-While-clause-typed g t c =
    let old = c.args.types.now in
    let body = body_in old (g.S.Site.site c.args.context.now.site.now) c.args.context.now.outcome in
    let state = state_in old c.args.state.now in
    let same = while_same body state c.args.stmt.now c.in-While.at c.in-While.test c.in-While.body c.in-While.is in
    IfOk-weaker c.while_walked.result _ _ (λ r h. subst (λ (d : Done PlainStmt). StmtIs c.while_walked.new.types r d.typed) same h) c.while_walked.ensures.typed

pub stmt_walked-returns-in-While-clause-told : goal.stmt_walked-returns-in-While-clause-told
stmt_walked-returns-in-While-clause-told g t c =
    let old = c.args.types.now in
    let body = body_in old (g.S.Site.site c.args.context.now.site.now) c.args.context.now.outcome in
    let state = state_in old c.args.state.now in
    on_ok_weaker c.while_walked.result (while_told body state c.args.stmt.now c.in-While.at c.in-While.test c.in-While.body c.args.first.now c.while_walked.new.first c.in-While.is) c.while_walked.ensures.told

pub stmts_walked-stmt_walked-requires : goal.stmts_walked-stmt_walked-requires
stmts_walked-stmt_walked-requires g t c =
    let stands = g.S.Site.grows c.args.context.now.site.now c.args.types.now c.loop-stmt.types c.loop-stmt.invariant.kept c.requires.stands in
    let state : StateWithin c.loop-stmt.types c.loop-stmt.state = c.loop-stmt.invariant.after.within in
    let outcome : IfWithin c.loop-stmt.types c.args.context.now.outcome = type_within_kept c.args.types.now c.loop-stmt.types c.args.context.now.outcome c.loop-stmt.invariant.kept c.requires.outcome in
    search (rules, the_lemmas)

pub stmts_walked-loop-stmt-init : goal.stmts_walked-loop-stmt-init
stmts_walked-loop-stmt-init g t c =
    let old = c.args.types.now in
    let body = body_in old (g.S.Site.site c.args.context.now.site.now) c.args.context.now.outcome in
    let state = state_in old c.args.state.now in
    record {
      kept = keeps_all old;
      typed = none_is old c.new.result c.new.ensures;
      after = record { within = c.requires.state; is = refl };
      scope = same_longer c.args.state.now.locals.locals.items;
      told = none_told c.args.first.now;
    }

pub stmts_walked-loop-stmt-preserved : goal.stmts_walked-loop-stmt-preserved
stmts_walked-loop-stmt-preserved g t c =
    let old = c.args.types.now in
    let body = body_in old (g.S.Site.site c.args.context.now.site.now) c.args.context.now.outcome in
    let state = state_in old c.args.state.now in
    let mid = c.loop-stmt.types in
    let new = c.stmt_walked.new.types in
    let there = body_kept old mid (g.S.Site.site c.args.context.now.site.now) c.args.context.now.outcome c.loop-stmt.invariant.kept c.requires.outcome in
    let here = c.loop-stmt.invariant.after.is in
    record {
      kept = keeps_twice old mid new c.loop-stmt.invariant.kept c.stmt_walked.ensures.kept;
      typed = typed_further mid new body _ state _ c.args.stmts.now c.loop-stmt.stmt-index c.stmt-item.result c.loop-stmt.done c.in_ok-done.done c.in_ok-one.one c.stmt_walked.ensures.kept c.loop-stmt-test.true c.stmt-item.is there here c.loop-stmt.invariant.typed c.in_ok-one.ensures.typed (c.in_ok-done.ensures.within new) (c.in_ok-done.ensures.is new);
      after = after_further new body _ state _ c.args.stmts.now c.loop-stmt.stmt-index c.stmt-item.result c.stmt_walked.new.state c.loop-stmt-test.true c.stmt-item.is there here c.in_ok-one.ensures.after;
      scope = longer_twice c.args.state.now.locals.locals.items c.loop-stmt.state.locals.locals.items c.stmt_walked.new.state.locals.locals.items c.loop-stmt.invariant.scope c.in_ok-one.ensures.scope;
      told = told_further body _ state _ c.args.stmts.now c.loop-stmt.stmt-index c.stmt-item.result c.args.first.now c.loop-stmt.first c.stmt_walked.new.first c.loop-stmt-test.true c.stmt-item.is there here c.loop-stmt.invariant.told c.in_ok-one.ensures.told;
    }

pub stmts_walked-returns-clause-typed : goal.stmts_walked-returns-clause-typed
stmts_walked-returns-clause-typed g t c =
    let old = c.args.types.now in
    let body = body_in old (g.S.Site.site c.args.context.now.site.now) c.args.context.now.outcome in
    let state = state_in old c.args.state.now in
    all_typed c.loop-stmt.types body state c.args.stmts.now c.loop-stmt.stmt-index c.loop-stmt.done c.loop-stmt-test.false c.loop-stmt.invariant.typed

pub stmts_walked-returns-clause-after : goal.stmts_walked-returns-clause-after
stmts_walked-returns-clause-after g t c =
    let old = c.args.types.now in
    let body = body_in old (g.S.Site.site c.args.context.now.site.now) c.args.context.now.outcome in
    let state = state_in old c.args.state.now in
    all_after c.loop-stmt.types body state c.args.stmts.now c.loop-stmt.stmt-index c.loop-stmt.state c.loop-stmt-test.false c.loop-stmt.invariant.after

pub stmts_walked-returns-clause-told : goal.stmts_walked-returns-clause-told
stmts_walked-returns-clause-told g t c =
    let old = c.args.types.now in
    let body = body_in old (g.S.Site.site c.args.context.now.site.now) c.args.context.now.outcome in
    let state = state_in old c.args.state.now in
    all_told body state c.args.stmts.now c.loop-stmt.stmt-index c.args.first.now c.loop-stmt.first c.loop-stmt-test.false c.loop-stmt.invariant.told
