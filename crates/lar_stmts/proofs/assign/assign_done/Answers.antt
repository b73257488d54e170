use Rattle.std.proofs.Common.{◌∙◌, ap, subst, false}
use Rattle.std.specs.Prelude.{Option}
use Rattle.type_table.specs.TypeOf.{TypeOf}
use Rattle.lar_tree.specs.ExprView.{expr_view}
use Rattle.lar_rules.specs.Fault.{least}
use Rattle.lar_rules.specs.Judged.{Env, fitting_if}
use Rattle.lar_rules.specs.Exprs.{judge}
use Rattle.lar_judge.specs.Envs.{plain_env}
use Rattle.lar_judge.specs.Known.{Knows, type_if, typed_in}
use Rattle.lar_judge.proofs.Kept.{within_kept}
use Rattle.lar_judge.proofs.Scopes.{locals_within_kept}
use Rattle.lar_exprs.proofs.Growing.{env_kept}
use Rattle.lar_stmts.specs.States.{body_in, state_in}
use Rattle.lar_stmts.specs.Targets.{target_in}
use Rattle.lar_stmts.proofs.Assigning.{assign_is, assign_told, label_known, target_known}
use Rattle.lar_stmts.proofs.Told.{typed_is}
use Rattle.lar_stmts.proofs.assign.assign_done.Goals as goal

pub judged-requires-2-clause-locals : goal.judged-requires-2-clause-locals
judged-requires-2-clause-locals g c = locals_within_kept c.args.types.now c.judged.new.types c.args.state.now.locals.locals.items c.judged.ensures.kept c.requires.locals

pub misfit_if-requires-clause-wanted : goal.misfit_if-requires-clause-wanted
misfit_if-requires-clause-wanted g c = c.label_if-wanted.ensures.within c.judged-2.new.types (within_kept c.judged.new.types c.judged-2.new.types c.in_ok-left.left.typed c.judged-2.ensures.kept c.in_ok-left.ensures.known.within)

pub fitting_if-requires-clause-wanted : goal.fitting_if-requires-clause-wanted
fitting_if-requires-clause-wanted g c = c.label_if-wanted.ensures.within c.judged-2.new.types (within_kept c.judged.new.types c.judged-2.new.types c.in_ok-left.left.typed c.judged-2.ensures.kept c.in_ok-left.ensures.known.within)

pub returns-clause-typed : goal.returns-clause-typed
returns-clause-typed g c =
    let old = c.args.types.now in
    let mid = c.judged.new.types in
    let new = c.judged-2.new.types in
    let env = plain_env (g.S.Site.site c.args.context.now.site.now) old c.args.state.now.locals.locals.items false in
    let same = env_kept (g.S.Site.site c.args.context.now.site.now) old mid c.args.state.now.locals.locals.items false c.judged.ensures.kept c.requires.locals in
    let l = judge env (expr_view c.args.place.now) in
    let r = judge env (expr_view c.args.setting.now.value) in
    let known = subst (λ (x : Env). Knows new c.in_ok-right.right (judge x (expr_view c.args.setting.now.value))) same c.in_ok-right.ensures.known in
    let label = label_known mid new c.in_ok-left.left l (type_if new c.label_if-wanted.result) c.judged-2.ensures.kept c.in_ok-left.ensures.known (c.label_if-wanted.ensures.is new) in
    let target = target_known mid new c.in_ok-left.left l (target_in new c.in_ok-target.target) c.judged-2.ensures.kept c.in_ok-left.ensures.known (c.in_ok-target.ensures.is new) in
    let fits = c.fitting_if.ensures.is r (typed_is new c.in_ok-right.right r known) ∙ ap (λ (t : Option TypeOf). fitting_if t r) label in
    record {
      within = c.assigned.ensures.within new (c.in_ok-target.ensures.within new (within_kept c.judged.new.types c.judged-2.new.types c.in_ok-left.left.typed c.judged-2.ensures.kept c.in_ok-left.ensures.known.within)) c.fitting_if.ensures.within;
      is = c.assigned.ensures.is new ∙ assign_is (target_in new c.in_ok-target.target) (typed_in new c.fitting_if.result) (body_in old (g.S.Site.site c.args.context.now.site.now) c.args.context.now.outcome) (state_in old c.args.state.now) (expr_view c.args.place.now) l r target fits;
    }

pub returns-clause-told : goal.returns-clause-told
returns-clause-told g c =
    let old = c.args.types.now in
    let mid = c.judged.new.types in
    let new = c.judged-2.new.types in
    let env = plain_env (g.S.Site.site c.args.context.now.site.now) old c.args.state.now.locals.locals.items false in
    let same = env_kept (g.S.Site.site c.args.context.now.site.now) old mid c.args.state.now.locals.locals.items false c.judged.ensures.kept c.requires.locals in
    let l = judge env (expr_view c.args.place.now) in
    let r = judge env (expr_view c.args.setting.now.value) in
    let known = subst (λ (x : Env). Knows new c.in_ok-right.right (judge x (expr_view c.args.setting.now.value))) same c.in_ok-right.ensures.known in
    let label = label_known mid new c.in_ok-left.left l (type_if new c.label_if-wanted.result) c.judged-2.ensures.kept c.in_ok-left.ensures.known (c.label_if-wanted.ensures.is new) in
    assign_told new (body_in old (g.S.Site.site c.args.context.now.site.now) c.args.context.now.outcome) (state_in old c.args.state.now) (expr_view c.args.place.now) c.in_ok-left.left.at l r c.in_ok-right.right (type_if new c.label_if-wanted.result) c.args.first.now c.judged.new.first c.note_misplaced.new.first c.judged-2.new.first _
    known (ap (λ x. x.at) c.in_ok-left.ensures.known.is) label c.in_ok-left.ensures.told (c.note_misplaced.ensures old)
    (c.in_ok-right.ensures.told ∙ ap (λ (x : Env). least c.note_misplaced.new.first (judge x (expr_view c.args.setting.now.value)).faults) same) (c.in_ok-misfit_if.ensures (g.S.Site.site c.args.context.now.site.now) c.requires.here)
