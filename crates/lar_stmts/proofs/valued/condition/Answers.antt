use Rattle.std.proofs.Common.{false}
use Rattle.std.proofs.lemmas.Result.{IfOk-weaker, on_ok_weaker}
use Rattle.lar_tree.specs.ExprView.{expr_view}
use Rattle.lar_judge.specs.Envs.{plain_env}
use Rattle.lar_judge.proofs.Scopes.{locals_within_kept}
use Rattle.lar_exprs.proofs.Growing.{env_kept}
use Rattle.lar_stmts.proofs.Told.{same_fitting, same_told}
use Rattle.lar_stmts.proofs.valued.condition.Goals as goal

pub of_type-requires-clause-locals : goal.of_type-requires-clause-locals
of_type-requires-clause-locals g c =
    locals_within_kept c.args.types.now c.bool_type.new.types c.args.state.now.locals.locals.items c.bool_type.ensures.kept c.requires.locals

pub returns-clause-is : goal.returns-clause-is
returns-clause-is g c =
    let env = plain_env (g.S.Site.site c.args.context.now.site.now) c.args.types.now c.args.state.now.locals.locals.items false in
    IfOk-weaker c.of_type.result _ _ (λ r h. same_fitting env _ (expr_view c.args.e.now) _ _ _ (env_kept (g.S.Site.site c.args.context.now.site.now) c.args.types.now c.bool_type.new.types c.args.state.now.locals.locals.items false c.bool_type.ensures.kept c.requires.locals) c.in_ok-bool.ensures.number.is h) c.of_type.ensures.is

pub returns-clause-told : goal.returns-clause-told
returns-clause-told g c =
    let env = plain_env (g.S.Site.site c.args.context.now.site.now) c.args.types.now c.args.state.now.locals.locals.items false in
    on_ok_weaker c.of_type.result (λ h. same_told env _ (g.S.Site.site c.args.context.now.site.now) (expr_view c.args.e.now) _ _ c.args.first.now _ (env_kept (g.S.Site.site c.args.context.now.site.now) c.args.types.now c.bool_type.new.types c.args.state.now.locals.locals.items false c.bool_type.ensures.kept c.requires.locals) c.in_ok-bool.ensures.number.is h) c.of_type.ensures.told
