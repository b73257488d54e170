use Rattle.std.proofs.Common.{◌∙◌, ap, sym, subst}
use Rattle.lar_judge.specs.Envs.{value_in, ValueWithin, plain_env}
use Rattle.lar_judge.proofs.PathRules.{unknown_told, refused_said, local_knows, local_said, number_said, constant_said}
use Rattle.lar_judge.proofs.paths.path.Goals as goal

pub returns-then-env-clause-told : goal.returns-then-env-clause-told
returns-then-env-clause-told g c =
    let rows = c.args.types.now in
    refused_said (plain_env (g.S.Site.site c.args.env.now.site.now) rows c.args.env.now.locals.now.locals.items c.args.env.now.asserting) c.args.path.now _ _ c.args.first.now _
    (sym (ap (value_in rows) c.in-Local.is) ∙ c.value_named.ensures.is rows) c.if-env.true c.in_ok-note_unknown-in-Local.ensures

pub returns-in_ok-note_unknown-in-Nothing-clause-told : goal.returns-in_ok-note_unknown-in-Nothing-clause-told
returns-in_ok-note_unknown-in-Nothing-clause-told g c =
    let rows = c.args.types.now in
    unknown_told (plain_env (g.S.Site.site c.args.env.now.site.now) rows c.args.env.now.locals.now.locals.items c.args.env.now.asserting) c.args.path.now _ c.args.first.now _
    (sym (ap (value_in rows) c.in-Nothing.is) ∙ c.value_named.ensures.is rows) c.in_ok-note_unknown-in-Nothing.ensures

pub returns-else-env-clause-known : goal.returns-else-env-clause-known
returns-else-env-clause-known g c =
    let rows = c.args.types.now in
    local_knows rows (plain_env (g.S.Site.site c.args.env.now.site.now) rows c.args.env.now.locals.now.locals.items c.args.env.now.asserting) c.args.path.now _ _ c.local_typed.result
    (sym (ap (value_in rows) c.in-Local.is) ∙ c.value_named.ensures.is rows) c.if-env.false
    (c.local_typed.ensures.within rows (subst (λ v. ValueWithin rows v) c.in-Local.is (c.value_named.ensures.within rows c.requires))) (c.local_typed.ensures.is rows)

pub returns-else-env-clause-told : goal.returns-else-env-clause-told
returns-else-env-clause-told g c =
    let rows = c.args.types.now in
    local_said (plain_env (g.S.Site.site c.args.env.now.site.now) rows c.args.env.now.locals.now.locals.items c.args.env.now.asserting) c.args.path.now _ _ c.args.first.now
    (sym (ap (value_in rows) c.in-Local.is) ∙ c.value_named.ensures.is rows) c.if-env.false

pub returns-in_ok-int-in-Generic-clause-told : goal.returns-in_ok-int-in-Generic-clause-told
returns-in_ok-int-in-Generic-clause-told g c =
    let rows = c.args.types.now in
    number_said (plain_env (g.S.Site.site c.args.env.now.site.now) rows c.args.env.now.locals.now.locals.items c.args.env.now.asserting) c.args.path.now _ _ c.args.first.now
    (sym (ap (value_in rows) c.in-Generic.is) ∙ c.value_named.ensures.is rows)

pub returns-in_ok-int-in-Constant-clause-told : goal.returns-in_ok-int-in-Constant-clause-told
returns-in_ok-int-in-Constant-clause-told g c =
    let rows = c.args.types.now in
    constant_said (plain_env (g.S.Site.site c.args.env.now.site.now) rows c.args.env.now.locals.now.locals.items c.args.env.now.asserting) c.args.path.now _ _ c.args.first.now
    (sym (ap (value_in rows) c.in-Constant.is) ∙ c.value_named.ensures.is rows)
