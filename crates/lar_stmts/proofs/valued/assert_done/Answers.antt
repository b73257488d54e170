use Rattle.std.proofs.Common.{true}
use Rattle.lar_tree.specs.ExprView.{expr_view}
use Rattle.lar_judge.specs.Envs.{plain_env}
use Rattle.lar_typed.specs.Stmts.{assert}
use Rattle.lar_judge.proofs.Scopes.{locals_within_kept}
use Rattle.lar_exprs.proofs.Growing.{env_kept}
use Rattle.lar_stmts.proofs.Made.{stmt_none, assert_is}
use Rattle.lar_stmts.proofs.Told.{same_fitting, same_told}
use Rattle.lar_stmts.proofs.valued.assert_done.Goals as goal

pub of_type-requires-clause-locals : goal.of_type-requires-clause-locals
of_type-requires-clause-locals g c =
    locals_within_kept c.args.types.now c.bool_type.new.types c.args.state.now.locals.locals.items c.bool_type.ensures.kept c.requires.locals

pub returns-in-None-clause-typed : goal.returns-in-None-clause-typed
returns-in-None-clause-typed g c =
    let env = plain_env (g.S.Site.site c.args.context.now.site.now) c.args.types.now c.args.state.now.locals.locals.items true in
    let is = same_fitting env _ (expr_view c.args.asked.now.value) _ _ _ (env_kept (g.S.Site.site c.args.context.now.site.now) c.args.types.now c.bool_type.new.types c.args.state.now.locals.locals.items true c.bool_type.ensures.kept c.requires.locals) c.in_ok-bool.ensures.number.is c.in_ok-value.ensures.is in
    stmt_none c.of_type.new.types c.in_ok-value.value _ (λ x. assert x c.args.asked.now.keyword) c.in-None.is is

pub returns-in-None-clause-told : goal.returns-in-None-clause-told
returns-in-None-clause-told g c =
    let env = plain_env (g.S.Site.site c.args.context.now.site.now) c.args.types.now c.args.state.now.locals.locals.items true in
    same_told env _ (g.S.Site.site c.args.context.now.site.now) (expr_view c.args.asked.now.value) _ _ c.args.first.now _ (env_kept (g.S.Site.site c.args.context.now.site.now) c.args.types.now c.bool_type.new.types c.args.state.now.locals.locals.items true c.bool_type.ensures.kept c.requires.locals) c.in_ok-bool.ensures.number.is c.in_ok-value.ensures.told

pub returns-in-Some-clause-typed : goal.returns-in-Some-clause-typed
returns-in-Some-clause-typed g c =
    let env = plain_env (g.S.Site.site c.args.context.now.site.now) c.args.types.now c.args.state.now.locals.locals.items true in
    let is = same_fitting env _ (expr_view c.args.asked.now.value) _ _ _ (env_kept (g.S.Site.site c.args.context.now.site.now) c.args.types.now c.bool_type.new.types c.args.state.now.locals.locals.items true c.bool_type.ensures.kept c.requires.locals) c.in_ok-bool.ensures.number.is c.in_ok-value.ensures.is in
    assert_is c.of_type.new.types c.in_ok-value.value c.in-Some.value _ c.static_assert.result c.args.asked.now.keyword c.in-Some.is c.in_ok-value.ensures.within is c.static_assert.ensures

pub returns-in-Some-clause-told : goal.returns-in-Some-clause-told
returns-in-Some-clause-told g c =
    let env = plain_env (g.S.Site.site c.args.context.now.site.now) c.args.types.now c.args.state.now.locals.locals.items true in
    same_told env _ (g.S.Site.site c.args.context.now.site.now) (expr_view c.args.asked.now.value) _ _ c.args.first.now _ (env_kept (g.S.Site.site c.args.context.now.site.now) c.args.types.now c.bool_type.new.types c.args.state.now.locals.locals.items true c.bool_type.ensures.kept c.requires.locals) c.in_ok-bool.ensures.number.is c.in_ok-value.ensures.told
