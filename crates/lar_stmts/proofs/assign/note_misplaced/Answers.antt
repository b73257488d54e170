use Rattle.std.proofs.Common.{refl, false}
use Rattle.lar_tree.specs.ExprView.{expr_view}
use Rattle.lar_judge.specs.Envs.{plain_env}
use Rattle.lar_stmts.proofs.Places.{misplaced_told, placed_told}
use Rattle.lar_stmts.proofs.assign.note_misplaced.Goals as goal

pub returns-then-not-is_place : goal.returns-then-not-is_place
returns-then-not-is_place g c rows =
    let env = plain_env (g.S.Site.site c.args.context.now.site.now) rows c.args.state.now.locals.locals.items false in
    misplaced_told env (expr_view c.args.place.now) c.args.at c.is_place.result c.args.context.now.here.file c.args.first.now _ (c.is_place.ensures rows env refl) c.if-not-is_place.true c.requires.file c.note_none.ensures

pub returns-else-not-is_place : goal.returns-else-not-is_place
returns-else-not-is_place g c rows =
    let env = plain_env (g.S.Site.site c.args.context.now.site.now) rows c.args.state.now.locals.locals.items false in
    placed_told env (expr_view c.args.place.now) c.args.at c.is_place.result c.args.first.now (c.is_place.ensures rows env refl) c.if-not-is_place.false
