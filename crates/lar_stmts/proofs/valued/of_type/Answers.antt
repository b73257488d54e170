use Rattle.lar_tree.specs.ExprView.{expr_view}
use Rattle.lar_judge.specs.Envs.{plain_env}
use Rattle.lar_rules.specs.Exprs.{judge}
use Rattle.lar_stmts.proofs.Told.{fit_told}
use Rattle.lar_stmts.proofs.valued.of_type.Goals as goal

pub returns-clause-told : goal.returns-clause-told
returns-clause-told g c =
    let d = judge (plain_env (g.S.Site.site c.args.context.now.site.now) c.args.types.now c.args.state.now.locals.locals.items c.args.asserting) (expr_view c.args.e.now) in
    fit_told c.judged.new.types (g.S.Site.site c.args.context.now.site.now) _ _ d c.in_ok-value.value c.args.first.now c.judged.new.first _ (c.judged.ensures.kept.same c.args.wanted c.requires.wanted) c.in_ok-value.ensures.known c.in_ok-value.ensures.told (c.in_ok-misfit.ensures (g.S.Site.site c.args.context.now.site.now) c.requires.here)
