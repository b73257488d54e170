use Rattle.std.proofs.Common.{◌∙◌, ap, sym, subst, refl, [], Option, Some, None}
use Rattle.lar_typed.specs.declared.expr.TypedExpr.{TypedExpr}
use Rattle.lar_typed.specs.Exprs.{label_of}
use Rattle.lar_typed.specs.ExprView.{expr_view}
use Rattle.lar_rules.specs.Fault.{least}
use Rattle.lar_judge.specs.Envs.{plain_env}
use Rattle.lar_judge.specs.Known.{TypedWithin, expr_in}
use Rattle.lar_judge.specs.Selected.{part_in, part_if}
use Rattle.lar_judge.proofs.FieldRules.{faulty_is, field_knows, field_told}
use Rattle.lar_judge.proofs.Kept.{within_kept}
use Rattle.lar_judge.proofs.Operands.{knows_same}
use Rattle.lar_judge.proofs.fields.field.Goals as goal

pub returns-in-None-clause-known : goal.returns-in-None-clause-known
returns-in-None-clause-known g c =
    let rows = c.args.types.now in
    let env = plain_env (g.S.Site.site c.args.env.now.site.now) rows c.args.env.now.locals.now.locals.items c.args.env.now.asserting in
    knows_same rows c.unless_asserting.result _ _ (faulty_is rows env c.args.e c.args.selector.now c.in-None.is) (c.unless_asserting.ensures.known rows env [] (record { site = c.requires.here; same = refl }) tt)

pub returns-in-None-clause-told : goal.returns-in-None-clause-told
returns-in-None-clause-told g c =
    let rows = c.args.types.now in
    let env = plain_env (g.S.Site.site c.args.env.now.site.now) rows c.args.env.now.locals.now.locals.items c.args.env.now.asserting in
    c.unless_asserting.ensures.told env None (record { site = c.requires.here; same = refl }) ∙ ap (λ j. least c.args.first.now j.faults) (faulty_is rows env c.args.e c.args.selector.now c.in-None.is)

pub returns-in_ok-typed-in-Some-clause-known : goal.returns-in_ok-typed-in-Some-clause-known
returns-in_ok-typed-in-Some-clause-known g c =
    let rows = c.args.types.now in
    let new = c.select.new.types in
    let env = plain_env (g.S.Site.site c.args.env.now.site.now) rows c.args.env.now.locals.now.locals.items c.args.env.now.asserting in
    let w : TypedWithin rows (Some c.in-Some.x) = subst (λ (o : Option TypedExpr). TypedWithin rows o) c.in-Some.is c.requires.within in
    field_knows rows new env c.args.e c.in-Some.x c.label.result c.args.selector.now c.in_ok-part-in-Some.part c.in_ok-typed-in-Some.typed c.unless_asserting-in-Some.result c.select.ensures.kept c.requires.within c.in-Some.is (c.label.ensures ∙ ap (λ (y : TypedExpr). label_of (expr_view y)) c.in-Some.x-is) c.in_ok-part-in-Some.ensures.is
    (c.in_ok-typed-in-Some.ensures.is new ∙ ap (λ (y : TypedExpr). part_if (expr_in new y) (part_in new c.in_ok-part-in-Some.part)) c.in-Some.x-is)
    (λ fs. c.unless_asserting-in-Some.ensures.known new env fs (record { site = c.requires.here; same = refl }) (c.in_ok-typed-in-Some.ensures.within new (subst (λ (y : TypedExpr). TypedWithin new (Some y)) (sym c.in-Some.x-is) (within_kept rows new (Some c.in-Some.x) c.select.ensures.kept w)) c.in_ok-part-in-Some.ensures.within))

pub returns-in_ok-typed-in-Some-clause-told : goal.returns-in_ok-typed-in-Some-clause-told
returns-in_ok-typed-in-Some-clause-told g c =
    let rows = c.args.types.now in
    let new = c.select.new.types in
    let env = plain_env (g.S.Site.site c.args.env.now.site.now) rows c.args.env.now.locals.now.locals.items c.args.env.now.asserting in
    field_told rows new env c.args.e c.in-Some.x c.label.result c.args.selector.now c.in_ok-part-in-Some.part c.args.env.now.here.file c.args.first.now _ _ c.select.ensures.kept c.requires.within c.in-Some.is (c.label.ensures ∙ ap (λ (y : TypedExpr). label_of (expr_view y)) c.in-Some.x-is) c.in_ok-part-in-Some.ensures.is
    c.requires.here.file (c.note_missing.ensures new) (c.unless_asserting-in-Some.ensures.told env None (record { site = c.requires.here; same = refl }))
