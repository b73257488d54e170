use Rattle.lar_stmts.specs.States.{body_in}
use Rattle.lar_stmts.proofs.Returning.{unit_told, other_told}
use Rattle.lar_stmts.proofs.outcome.unit_returned.Goals as goal

pub returns-then-is_same-clause-told : goal.returns-then-is_same-clause-told
returns-then-is_same-clause-told g c =
    unit_told (body_in c.args.types.now (g.S.Site.site c.args.context.now.site.now) c.args.context.now.outcome) c.args.at _ _ _ c.args.first.now c.is_same.result c.if-is_same.true c.is_same.ensures c.in_ok-unit.ensures.number.is (c.unit_type.ensures.kept.same c.args.outcome c.requires.outcome)

pub returns-clause-told : goal.returns-clause-told
returns-clause-told g c =
    other_told (body_in c.args.types.now (g.S.Site.site c.args.context.now.site.now) c.args.context.now.outcome) c.args.at _ _ _ c.args.first.now _ c.is_same.result c.if-is_same.false c.is_same.ensures c.in_ok-unit.ensures.number.is (c.unit_type.ensures.kept.same c.args.outcome c.requires.outcome) (c.in_ok-note_other_type.ensures (g.S.Site.site c.args.context.now.site.now) c.requires.here)
