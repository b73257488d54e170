use Rattle.std.proofs.Common.{false}
use Rattle.lar_tree.specs.ExprView.{expr_view}
use Rattle.lar_judge.specs.Envs.{plain_env}
use Rattle.lar_rules.specs.Exprs.{judge}
use Rattle.lar_judge.proofs.Kept.{type_kept}
use Rattle.lar_stmts.proofs.Told.{fit_if_told}
use Rattle.lar_stmts.proofs.outcome.value_returned.Goals as goal

pub returns-in-None-clause-told : goal.returns-in-None-clause-told
returns-in-None-clause-told g c =
    let d = judge (plain_env (g.S.Site.site c.args.context.now.site.now) c.args.types.now c.args.state.now.locals.locals.items false) (expr_view c.args.value.now) in
    fit_if_told c.judged.new.types (g.S.Site.site c.args.context.now.site.now) _ _ d c.in_ok-value.value c.args.first.now c.judged.new.first _ (type_kept c.args.types.now c.judged.new.types c.args.context.now.outcome c.judged.ensures.kept c.requires.outcome) c.in_ok-value.ensures.known c.in_ok-value.ensures.told (c.in_ok-misfit_if.ensures (g.S.Site.site c.args.context.now.site.now) c.requires.here)

pub returns-in-Some-clause-told : goal.returns-in-Some-clause-told
returns-in-Some-clause-told g c =
    let d = judge (plain_env (g.S.Site.site c.args.context.now.site.now) c.args.types.now c.args.state.now.locals.locals.items false) (expr_view c.args.value.now) in
    fit_if_told c.judged.new.types (g.S.Site.site c.args.context.now.site.now) _ _ d c.in_ok-value.value c.args.first.now c.judged.new.first _ (type_kept c.args.types.now c.judged.new.types c.args.context.now.outcome c.judged.ensures.kept c.requires.outcome) c.in_ok-value.ensures.known c.in_ok-value.ensures.told (c.in_ok-misfit_if.ensures (g.S.Site.site c.args.context.now.site.now) c.requires.here)
