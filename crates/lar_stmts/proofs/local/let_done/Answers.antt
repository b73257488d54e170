use Rattle.lar_judge.specs.Wanted.{types_if}
use Rattle.std.proofs.Common.{◌≡◌, length, ◌∙◌, ap, sym, refl, subst, false, Option}
use Rattle.type_table.specs.TypeOf.{TypeOf}
use Rattle.lar_tree.specs.ExprView.{expr_view}
use Rattle.lar_typed.specs.ExprView.{expr_view as typed_expr_view}
use Rattle.lar_typed.specs.Stmts.{let_local}
use Rattle.lar_rules.specs.Fault.{least}
use Rattle.lar_rules.specs.Judged.{Env, fitting_if}
use Rattle.lar_rules.specs.Exprs.{judge}
use Rattle.lar_judge.specs.Envs.{plain_env}
use Rattle.lar_judge.specs.Known.{Knows}
use Rattle.lar_judge.proofs.Kept.{type_kept, type_within_kept}
use Rattle.lar_judge.proofs.Rows.{keeps_twice}
use Rattle.lar_judge.proofs.Scopes.{locals_within_kept}
use Rattle.lar_exprs.proofs.Growing.{env_kept}
use Rattle.lar_stmts.proofs.Declaring.{declared_is, let_told, types-length}
use Rattle.lar_stmts.proofs.Made.{stmt_none, let_is}
use Rattle.lar_stmts.proofs.Told.{fit_if_told, typed_is}
use Rattle.lar_stmts.proofs.local.let_done.Goals as goal

pub judged-requires-clause-locals : goal.judged-requires-clause-locals
judged-requires-clause-locals g c =
    locals_within_kept c.args.types.now c.written.new.types c.args.state.now.locals.locals.items c.written.ensures.kept c.requires.state.locals

pub returns-in-None-clause-typed : goal.returns-in-None-clause-typed
returns-in-None-clause-typed g c =
    let old = c.args.types.now in
    let mid = c.written.new.types in
    let new = c.judged.new.types in
    let same = env_kept (g.S.Site.site c.args.context.now.site.now) old mid c.args.state.now.locals.locals.items false c.written.ensures.kept c.requires.state.locals in
    let d = judge (plain_env (g.S.Site.site c.args.context.now.site.now) c.args.types.now c.args.state.now.locals.locals.items false) (expr_view c.args.local.now.value) in
    let known = subst (λ (x : Env). Knows new c.in_ok-value.value (judge x (expr_view c.args.local.now.value))) same c.in_ok-value.ensures.known in
    let of = type_kept mid new c.in_ok-of.of c.judged.ensures.kept c.in_ok-of.ensures.within ∙ c.in_ok-of.ensures.is in
    let fits = c.fitting_if-value.ensures.is d (typed_is new c.in_ok-value.value d known) ∙ ap (λ (t : Option TypeOf). fitting_if t d) of in
    let number : c.count-number.result ≡ length (types_if old c.args.state.now.types.items) = c.count-number.ensures ∙ sym (types-length old c.args.state.now.types.items) in
    stmt_none new c.fitting_if-value.result _ (let_local _) c.in-None.is fits

pub returns-in-None-clause-after : goal.returns-in-None-clause-after
returns-in-None-clause-after g c =
    let old = c.args.types.now in
    let mid = c.written.new.types in
    let new = c.judged.new.types in
    let same = env_kept (g.S.Site.site c.args.context.now.site.now) old mid c.args.state.now.locals.locals.items false c.written.ensures.kept c.requires.state.locals in
    let d = judge (plain_env (g.S.Site.site c.args.context.now.site.now) c.args.types.now c.args.state.now.locals.locals.items false) (expr_view c.args.local.now.value) in
    let known = subst (λ (x : Env). Knows new c.in_ok-value.value (judge x (expr_view c.args.local.now.value))) same c.in_ok-value.ensures.known in
    let of = type_kept mid new c.in_ok-of.of c.judged.ensures.kept c.in_ok-of.ensures.within ∙ c.in_ok-of.ensures.is in
    declared_is old new c.args.state.now c.declare.new.self (record { name = _; number = length c.args.state.now.types.items; of = c.in_ok-of.of }) (c.args.local.now.name).text _ (keeps_twice old mid new c.written.ensures.kept c.judged.ensures.kept) c.requires.state (type_within_kept mid new c.in_ok-of.of c.judged.ensures.kept c.in_ok-of.ensures.within) of refl refl c.in_ok-declare.ensures.locals c.in_ok-declare.ensures.types

pub returns-in-None-clause-told : goal.returns-in-None-clause-told
returns-in-None-clause-told g c =
    let old = c.args.types.now in
    let mid = c.written.new.types in
    let new = c.judged.new.types in
    let same = env_kept (g.S.Site.site c.args.context.now.site.now) old mid c.args.state.now.locals.locals.items false c.written.ensures.kept c.requires.state.locals in
    let d = judge (plain_env (g.S.Site.site c.args.context.now.site.now) c.args.types.now c.args.state.now.locals.locals.items false) (expr_view c.args.local.now.value) in
    let known = subst (λ (x : Env). Knows new c.in_ok-value.value (judge x (expr_view c.args.local.now.value))) same c.in_ok-value.ensures.known in
    let of = type_kept mid new c.in_ok-of.of c.judged.ensures.kept c.in_ok-of.ensures.within ∙ c.in_ok-of.ensures.is in
    let last = fit_if_told new (g.S.Site.site c.args.context.now.site.now) _ _ d c.in_ok-value.value c.written.new.first c.judged.new.first _ of known (c.in_ok-value.ensures.told ∙ ap (λ (x : Env). least c.written.new.first (judge x (expr_view c.args.local.now.value)).faults) same) (c.in_ok-misfit_if.ensures (g.S.Site.site c.args.context.now.site.now) c.requires.here) in
    let_told _ _ c.args.first.now c.written.new.first _ c.in_ok-of.ensures.told last

pub returns-in-Some-clause-typed : goal.returns-in-Some-clause-typed
returns-in-Some-clause-typed g c =
    let old = c.args.types.now in
    let mid = c.written.new.types in
    let new = c.judged.new.types in
    let same = env_kept (g.S.Site.site c.args.context.now.site.now) old mid c.args.state.now.locals.locals.items false c.written.ensures.kept c.requires.state.locals in
    let d = judge (plain_env (g.S.Site.site c.args.context.now.site.now) c.args.types.now c.args.state.now.locals.locals.items false) (expr_view c.args.local.now.value) in
    let known = subst (λ (x : Env). Knows new c.in_ok-value.value (judge x (expr_view c.args.local.now.value))) same c.in_ok-value.ensures.known in
    let of = type_kept mid new c.in_ok-of.of c.judged.ensures.kept c.in_ok-of.ensures.within ∙ c.in_ok-of.ensures.is in
    let fits = c.fitting_if-value.ensures.is d (typed_is new c.in_ok-value.value d known) ∙ ap (λ (t : Option TypeOf). fitting_if t d) of in
    let number : c.count-number.result ≡ length (types_if old c.args.state.now.types.items) = c.count-number.ensures ∙ sym (types-length old c.args.state.now.types.items) in
    let_is new c.fitting_if-value.result c.in-Some.value _ c.let_local.result _ c.in-Some.is c.fitting_if-value.ensures.within fits (c.let_local.ensures ∙ ap (λ n. let_local n (typed_expr_view c.in-Some.value)) number)

pub returns-in-Some-clause-after : goal.returns-in-Some-clause-after
returns-in-Some-clause-after g c =
    let old = c.args.types.now in
    let mid = c.written.new.types in
    let new = c.judged.new.types in
    let same = env_kept (g.S.Site.site c.args.context.now.site.now) old mid c.args.state.now.locals.locals.items false c.written.ensures.kept c.requires.state.locals in
    let d = judge (plain_env (g.S.Site.site c.args.context.now.site.now) c.args.types.now c.args.state.now.locals.locals.items false) (expr_view c.args.local.now.value) in
    let known = subst (λ (x : Env). Knows new c.in_ok-value.value (judge x (expr_view c.args.local.now.value))) same c.in_ok-value.ensures.known in
    let of = type_kept mid new c.in_ok-of.of c.judged.ensures.kept c.in_ok-of.ensures.within ∙ c.in_ok-of.ensures.is in
    declared_is old new c.args.state.now c.declare.new.self (record { name = _; number = length c.args.state.now.types.items; of = c.in_ok-of.of }) (c.args.local.now.name).text _ (keeps_twice old mid new c.written.ensures.kept c.judged.ensures.kept) c.requires.state (type_within_kept mid new c.in_ok-of.of c.judged.ensures.kept c.in_ok-of.ensures.within) of refl refl c.in_ok-declare.ensures.locals c.in_ok-declare.ensures.types

pub returns-in-Some-clause-told : goal.returns-in-Some-clause-told
returns-in-Some-clause-told g c =
    let old = c.args.types.now in
    let mid = c.written.new.types in
    let new = c.judged.new.types in
    let same = env_kept (g.S.Site.site c.args.context.now.site.now) old mid c.args.state.now.locals.locals.items false c.written.ensures.kept c.requires.state.locals in
    let d = judge (plain_env (g.S.Site.site c.args.context.now.site.now) c.args.types.now c.args.state.now.locals.locals.items false) (expr_view c.args.local.now.value) in
    let known = subst (λ (x : Env). Knows new c.in_ok-value.value (judge x (expr_view c.args.local.now.value))) same c.in_ok-value.ensures.known in
    let of = type_kept mid new c.in_ok-of.of c.judged.ensures.kept c.in_ok-of.ensures.within ∙ c.in_ok-of.ensures.is in
    let last = fit_if_told new (g.S.Site.site c.args.context.now.site.now) _ _ d c.in_ok-value.value c.written.new.first c.judged.new.first _ of known (c.in_ok-value.ensures.told ∙ ap (λ (x : Env). least c.written.new.first (judge x (expr_view c.args.local.now.value)).faults) same) (c.in_ok-misfit_if.ensures (g.S.Site.site c.args.context.now.site.now) c.requires.here) in
    let_told _ _ c.args.first.now c.written.new.first _ c.in_ok-of.ensures.told last
