use Rattle.std.proofs.Common.{◌≡◌, [], ◌∷◌, ◌++◌, List, map, Some, None, sym, ap, ◌∙◌, refl, arith, subst}
use Rattle.std.proofs.lemmas.Result.{IfOk-weaker, on_ok_weaker}
use Rattle.lar_tree.specs.declared.expr.Expr.{the_lemmas}
use Rattle.lar_tree.specs.declared.commas.Member.{Member}
use Rattle.lar_tree.specs.declared.expr.Expr.{Expr}
use Rattle.lar_tree.specs.declared.expr.Expr.TheVariants as expr
use Rattle.lar_tree.specs.declared.expr.Init.{Init}
use Rattle.lar_tree.specs.declared.expr.New.{out-New}
use Rattle.lar_rules.specs.Fault.{least}
use Rattle.lar_rules.specs.Judged.{all_faults}
use Rattle.lar_rules.specs.Judged as rules
use Rattle.std.proofs.Common as common
use Rattle.lar_judge.specs.declared.judged.Judged.{Judged}
use Rattle.lar_judge.specs.Known.{Knows}
use Rattle.lar_judge.specs.Lists.{knowns, silents}
use Rattle.lar_judge.specs.Making.{names}
use Rattle.lar_judge.proofs.Least.{least_none}
use Rattle.lar_tree.specs.PlainLists.{values}
use Rattle.lar_judge.specs.Envs.{plain_env}
use Rattle.lar_judge.specs.Locals.{LocalsWithin}
use Rattle.lar_judge.proofs.Kept.{within_kept}
use Rattle.lar_judge.proofs.Rows.{keeps_twice}
use Rattle.lar_judge.proofs.Scopes.{locals_within_kept}
use Rattle.lar_exprs.specs.Walks.{judged, judged_list, member_values}
use Rattle.lar_exprs.proofs.Arms.{ok_always, number_told, truth_told, untruth_told, unary_known, unary_told, field_known, field_told, binary_known, binary_told, paren_is, bracket_known, bracket_told}
use Rattle.lar_exprs.proofs.Growing.{env_kept, knows_env, told_env, callee_within_kept, callee_kept, made_within_kept, made_kept}
use Rattle.lar_exprs.proofs.ListArms.{args_none, args_some, call_known, call_told, inits_known, new_known, new_told, values_none, values_some}
use Rattle.lar_exprs.proofs.Parts.{parts_first, parts_further, parts_told, parts_begun, parts_end, parts_all_told}
use Rattle.lar_exprs.proofs.expr.+judging.Goals as goal

pub bracket_judged-returns-clause-known : goal.bracket_judged-returns-clause-known
bracket_judged-returns-clause-known g t c =
    let rows = c.args.types.now in
    let env = plain_env (g.S.Site.site c.args.env.now.site.now) rows c.args.env.now.locals.now.locals.items c.args.env.now.asserting in
    IfOk-weaker c.bracket.result _ _ (λ r h. bracket_known c.parts_judged.new.types c.bracket.new.types env c.args.from c.in_ok-parts.parts.items (judged_list env (values c.args.list.now)) r c.in_ok-parts.ensures.known (h env (record { site = c.requires.here; same = refl }))) c.bracket.ensures.known

pub bracket_judged-returns-clause-told : goal.bracket_judged-returns-clause-told
bracket_judged-returns-clause-told g t c =
    let rows = c.args.types.now in
    let env = plain_env (g.S.Site.site c.args.env.now.site.now) rows c.args.env.now.locals.now.locals.items c.args.env.now.asserting in
    on_ok_weaker c.bracket.result (λ h. bracket_told c.parts_judged.new.types env c.args.from c.in_ok-parts.parts.items (judged_list env (values c.args.list.now)) c.args.first.now c.parts_judged.new.first _ c.in_ok-parts.ensures.known c.in_ok-parts.ensures.told h) (c.bracket.ensures.told env (record { site = c.requires.here; same = refl }))

pub call_judged-parts_judged-requires : goal.call_judged-parts_judged-requires
call_judged-parts_judged-requires g t c =
    let stands = g.S.Site.grows c.args.env.now.site.now c.args.types.now c.callee.new.types c.callee.ensures.kept c.requires.stands in
    let locals : LocalsWithin c.callee.new.types c.args.env.now.locals.now.locals.items = locals_within_kept c.args.types.now c.callee.new.types c.args.env.now.locals.now.locals.items c.callee.ensures.kept c.requires.locals in
    search (common.rules, the_lemmas)

pub call_judged-call-requires-in-Some-clause-callee : goal.call_judged-call-requires-in-Some-clause-callee
call_judged-call-requires-in-Some-clause-callee g t c = callee_within_kept c.callee.new.types c.parts_judged.new.types c.in_ok-callee.callee c.parts_judged.ensures.kept c.in_ok-callee.ensures.within

pub expr_judged-expr_judged-requires-in-Binary-2 : goal.expr_judged-expr_judged-requires-in-Binary-2
expr_judged-expr_judged-requires-in-Binary-2 g t c =
    let stands = g.S.Site.grows c.args.env.now.site.now c.args.types.now c.expr_judged-in-Binary.new.types c.expr_judged-in-Binary.ensures.kept c.requires.stands in
    let locals : LocalsWithin c.expr_judged-in-Binary.new.types c.args.env.now.locals.now.locals.items = locals_within_kept c.args.types.now c.expr_judged-in-Binary.new.types c.args.env.now.locals.now.locals.items c.expr_judged-in-Binary.ensures.kept c.requires.locals in
    search (common.rules, the_lemmas)

pub expr_judged-returns-in-Number-clause-told : goal.expr_judged-returns-in-Number-clause-told
expr_judged-returns-in-Number-clause-told g t c =
    let env = plain_env (g.S.Site.site c.args.env.now.site.now) c.args.types.now c.args.env.now.locals.now.locals.items c.args.env.now.asserting in
    ok_always c.number.result (number_told env c.args.e.now _ _ c.args.first.now c.in-Number.is)

pub expr_judged-returns-in-True-clause-told : goal.expr_judged-returns-in-True-clause-told
expr_judged-returns-in-True-clause-told g t c =
    let env = plain_env (g.S.Site.site c.args.env.now.site.now) c.args.types.now c.args.env.now.locals.now.locals.items c.args.env.now.asserting in
    ok_always c.truth.result (truth_told env c.args.e.now _ c.args.first.now c.in-True.is)

pub expr_judged-returns-in-False-clause-told : goal.expr_judged-returns-in-False-clause-told
expr_judged-returns-in-False-clause-told g t c =
    let env = plain_env (g.S.Site.site c.args.env.now.site.now) c.args.types.now c.args.env.now.locals.now.locals.items c.args.env.now.asserting in
    ok_always c.truth-in-False.result (untruth_told env c.args.e.now _ c.args.first.now c.in-False.is)

pub new_judged-values_judged-requires : goal.new_judged-values_judged-requires
new_judged-values_judged-requires g t c =
    let stands = g.S.Site.grows c.args.env.now.site.now c.args.types.now c.made.new.types c.made.ensures.kept c.requires.stands in
    let locals : LocalsWithin c.made.new.types c.args.env.now.locals.now.locals.items = locals_within_kept c.args.types.now c.made.new.types c.args.env.now.locals.now.locals.items c.made.ensures.kept c.requires.locals in
    search (common.rules, the_lemmas)

pub new_judged-new_struct-requires-in-Some-clause-made : goal.new_judged-new_struct-requires-in-Some-clause-made
new_judged-new_struct-requires-in-Some-clause-made g t c = made_within_kept c.made.new.types c.values_judged.new.types c.in_ok-made.made c.values_judged.ensures.kept c.in_ok-made.ensures.within

pub parts_judged-expr_judged-requires-in-loop-member : goal.parts_judged-expr_judged-requires-in-loop-member
parts_judged-expr_judged-requires-in-loop-member g t c =
    let stands = g.S.Site.grows c.args.env.now.site.now c.args.types.now c.loop-member.types c.loop-member.invariant.kept c.requires.stands in
    let locals : LocalsWithin c.loop-member.types c.args.env.now.locals.now.locals.items = locals_within_kept c.args.types.now c.loop-member.types c.args.env.now.locals.now.locals.items c.loop-member.invariant.kept c.requires.locals in
    search (common.rules, the_lemmas)

pub expr_judged-binary-requires-clause-a : goal.expr_judged-binary-requires-clause-a
expr_judged-binary-requires-clause-a g t c =
    let env = plain_env (g.S.Site.site c.args.env.now.site.now) c.args.types.now c.args.env.now.locals.now.locals.items c.args.env.now.asserting in
    within_kept c.expr_judged-in-Binary.new.types c.expr_judged-in-Binary-2.new.types c.in_ok-left-in-Binary.left.typed c.expr_judged-in-Binary-2.ensures.kept c.in_ok-left-in-Binary.ensures.known.within

pub expr_judged-returns-in-Some-clause-known : goal.expr_judged-returns-in-Some-clause-known
expr_judged-returns-in-Some-clause-known g t c =
    let env = plain_env (g.S.Site.site c.args.env.now.site.now) c.args.types.now c.args.env.now.locals.now.locals.items c.args.env.now.asserting in
    let is = paren_is env c.args.e.now c.in-Paren.from c.in-Paren.field-2 c.in-Paren.list c.get.result.now c.in-Paren.is (c.in-Some.is ∙ ap Some (sym c.get.ensures)) in
    IfOk-weaker c.bracket_judged.result _ _ (λ r h. subst (λ (d : rules.Judged). Knows c.bracket_judged.new.types r d) is h) c.bracket_judged.ensures.known

pub expr_judged-returns-in-Some-clause-told : goal.expr_judged-returns-in-Some-clause-told
expr_judged-returns-in-Some-clause-told g t c =
    let env = plain_env (g.S.Site.site c.args.env.now.site.now) c.args.types.now c.args.env.now.locals.now.locals.items c.args.env.now.asserting in
    let is = paren_is env c.args.e.now c.in-Paren.from c.in-Paren.field-2 c.in-Paren.list c.get.result.now c.in-Paren.is (c.in-Some.is ∙ ap Some (sym c.get.ensures)) in
    on_ok_weaker c.bracket_judged.result (λ h. h ∙ ap (λ (d : rules.Judged). least c.args.first.now d.faults) is) c.bracket_judged.ensures.told

pub expr_judged-returns-in_ok-inner-in-Field-clause-known : goal.expr_judged-returns-in_ok-inner-in-Field-clause-known
expr_judged-returns-in_ok-inner-in-Field-clause-known g t c =
    let env = plain_env (g.S.Site.site c.args.env.now.site.now) c.args.types.now c.args.env.now.locals.now.locals.items c.args.env.now.asserting in
    IfOk-weaker c.field.result _ _ (λ r h. field_known c.expr_judged.new.types c.field.new.types env _ c.args.e.now c.get-in-Field.result.now c.in-Field.field-1 c.in-Field.selector c.in_ok-inner-in-Field.inner r (env_kept (g.S.Site.site c.args.env.now.site.now) c.args.types.now c.expr_judged.new.types c.args.env.now.locals.now.locals.items c.args.env.now.asserting c.expr_judged.ensures.kept c.requires.locals)
    (c.in-Field.is ∙ ap (λ (x : Expr). expr.Field x c.in-Field.field-1 c.in-Field.selector) (sym c.get-in-Field.ensures)) c.in_ok-inner-in-Field.ensures.known h) c.field.ensures.known

pub expr_judged-returns-in_ok-inner-in-Field-clause-told : goal.expr_judged-returns-in_ok-inner-in-Field-clause-told
expr_judged-returns-in_ok-inner-in-Field-clause-told g t c =
    let env = plain_env (g.S.Site.site c.args.env.now.site.now) c.args.types.now c.args.env.now.locals.now.locals.items c.args.env.now.asserting in
    on_ok_weaker c.field.result (λ h. field_told c.expr_judged.new.types env _ c.args.e.now c.get-in-Field.result.now c.in-Field.field-1 c.in-Field.selector c.in_ok-inner-in-Field.inner c.args.first.now c.expr_judged.new.first _ (env_kept (g.S.Site.site c.args.env.now.site.now) c.args.types.now c.expr_judged.new.types c.args.env.now.locals.now.locals.items c.args.env.now.asserting c.expr_judged.ensures.kept c.requires.locals)
    (c.in-Field.is ∙ ap (λ (x : Expr). expr.Field x c.in-Field.field-1 c.in-Field.selector) (sym c.get-in-Field.ensures)) c.in_ok-inner-in-Field.ensures.known c.in_ok-inner-in-Field.ensures.told h) c.field.ensures.told

pub expr_judged-returns-in_ok-inner-in-Unary-clause-known : goal.expr_judged-returns-in_ok-inner-in-Unary-clause-known
expr_judged-returns-in_ok-inner-in-Unary-clause-known g t c =
    let env = plain_env (g.S.Site.site c.args.env.now.site.now) c.args.types.now c.args.env.now.locals.now.locals.items c.args.env.now.asserting in
    IfOk-weaker c.unary.result _ _ (λ r h. unary_known c.expr_judged-in-Unary.new.types c.unary.new.types env c.args.e.now c.get-in-Unary.result.now c.in-Unary.op c.in-Unary.at c.in_ok-inner-in-Unary.inner r
    (c.in-Unary.is ∙ ap (λ (x : Expr). expr.Unary c.in-Unary.op c.in-Unary.at x) (sym c.get-in-Unary.ensures)) c.in_ok-inner-in-Unary.ensures.known (h env)) c.unary.ensures.known

pub expr_judged-returns-in_ok-inner-in-Unary-clause-told : goal.expr_judged-returns-in_ok-inner-in-Unary-clause-told
expr_judged-returns-in_ok-inner-in-Unary-clause-told g t c =
    let env = plain_env (g.S.Site.site c.args.env.now.site.now) c.args.types.now c.args.env.now.locals.now.locals.items c.args.env.now.asserting in
    on_ok_weaker c.unary.result (λ h. unary_told c.expr_judged-in-Unary.new.types env c.args.e.now c.get-in-Unary.result.now c.in-Unary.op c.in-Unary.at c.in_ok-inner-in-Unary.inner c.args.first.now c.expr_judged-in-Unary.new.first _
    (c.in-Unary.is ∙ ap (λ (x : Expr). expr.Unary c.in-Unary.op c.in-Unary.at x) (sym c.get-in-Unary.ensures)) c.in_ok-inner-in-Unary.ensures.known c.in_ok-inner-in-Unary.ensures.told h) (c.unary.ensures.told env c.requires.here)

pub expr_judged-returns-in_ok-right-in-Binary-clause-known : goal.expr_judged-returns-in_ok-right-in-Binary-clause-known
expr_judged-returns-in_ok-right-in-Binary-clause-known g t c =
    let env = plain_env (g.S.Site.site c.args.env.now.site.now) c.args.types.now c.args.env.now.locals.now.locals.items c.args.env.now.asserting in
    IfOk-weaker c.binary.result _ _ (λ r h. binary_known c.expr_judged-in-Binary.new.types c.expr_judged-in-Binary-2.new.types c.binary.new.types env _ c.args.e.now c.get-in-Binary.result.now c.get-in-Binary-2.result.now c.in-Binary.op c.in-Binary.field-2
    c.in_ok-left-in-Binary.left c.in_ok-right-in-Binary.right r c.expr_judged-in-Binary-2.ensures.kept (env_kept (g.S.Site.site c.args.env.now.site.now) c.args.types.now c.expr_judged-in-Binary.new.types c.args.env.now.locals.now.locals.items c.args.env.now.asserting c.expr_judged-in-Binary.ensures.kept c.requires.locals)
    (c.in-Binary.is ∙ ap (λ (x : Expr). expr.Binary x c.in-Binary.op c.in-Binary.field-2 c.in-Binary.right) (sym c.get-in-Binary.ensures) ∙ ap (λ (x : Expr). expr.Binary c.get-in-Binary.result.now c.in-Binary.op c.in-Binary.field-2 x) (sym c.get-in-Binary-2.ensures)) c.in_ok-left-in-Binary.ensures.known c.in_ok-right-in-Binary.ensures.known (h env)) c.binary.ensures.known

pub expr_judged-returns-in_ok-right-in-Binary-clause-told : goal.expr_judged-returns-in_ok-right-in-Binary-clause-told
expr_judged-returns-in_ok-right-in-Binary-clause-told g t c =
    let env = plain_env (g.S.Site.site c.args.env.now.site.now) c.args.types.now c.args.env.now.locals.now.locals.items c.args.env.now.asserting in
    on_ok_weaker c.binary.result (λ h. binary_told c.expr_judged-in-Binary.new.types c.expr_judged-in-Binary-2.new.types env _ c.args.e.now c.get-in-Binary.result.now c.get-in-Binary-2.result.now c.in-Binary.op c.in-Binary.field-2
    c.in_ok-left-in-Binary.left c.in_ok-right-in-Binary.right c.args.first.now c.expr_judged-in-Binary.new.first c.expr_judged-in-Binary-2.new.first _ c.expr_judged-in-Binary-2.ensures.kept (env_kept (g.S.Site.site c.args.env.now.site.now) c.args.types.now c.expr_judged-in-Binary.new.types c.args.env.now.locals.now.locals.items c.args.env.now.asserting c.expr_judged-in-Binary.ensures.kept c.requires.locals)
    (c.in-Binary.is ∙ ap (λ (x : Expr). expr.Binary x c.in-Binary.op c.in-Binary.field-2 c.in-Binary.right) (sym c.get-in-Binary.ensures) ∙ ap (λ (x : Expr). expr.Binary c.get-in-Binary.result.now c.in-Binary.op c.in-Binary.field-2 x) (sym c.get-in-Binary-2.ensures)) c.in_ok-left-in-Binary.ensures.known c.in_ok-right-in-Binary.ensures.known c.in_ok-left-in-Binary.ensures.told c.in_ok-right-in-Binary.ensures.told h) (c.binary.ensures.told env c.requires.here)

pub call_judged-returns-in-None-clause-known : goal.call_judged-returns-in-None-clause-known
call_judged-returns-in-None-clause-known g t c =
    let env = plain_env (g.S.Site.site c.args.env.now.site.now) c.args.types.now c.args.env.now.locals.now.locals.items c.args.env.now.asserting in
    let rows = c.callee.new.types in
    let is = ap (knowns rows) c.new.ensures.items ∙ ap silents (sym (args_none env c.args.call.now.args c.in-None.is)) in
    IfOk-weaker c.call.result _ _ (λ r h. call_known rows env c.args.call.now c.new.result.items r is (h env _ _ (record { site = c.requires.here; same = refl }) c.in_ok-callee.ensures.is)) c.call.ensures.known

pub call_judged-returns-in-None-clause-told : goal.call_judged-returns-in-None-clause-told
call_judged-returns-in-None-clause-told g t c =
    let env = plain_env (g.S.Site.site c.args.env.now.site.now) c.args.types.now c.args.env.now.locals.now.locals.items c.args.env.now.asserting in
    let rows = c.callee.new.types in
    let is = ap (knowns rows) c.new.ensures.items ∙ ap silents (sym (args_none env c.args.call.now.args c.in-None.is)) in
    on_ok_weaker c.call.result (λ h. call_told rows env c.args.call.now c.new.result.items c.count-count.result c.args.first.now c.callee.new.first c.callee.new.first _ is c.count-count.ensures c.in_ok-callee.ensures.told
    (sym (least_none c.callee.new.first) ∙ ap (λ (ds : List rules.Judged). least c.callee.new.first (all_faults ds)) (sym (args_none env c.args.call.now.args c.in-None.is))) h) (c.call.ensures.told env _ _ (record { site = c.requires.here; same = refl }) c.in_ok-callee.ensures.is)

pub call_judged-returns-in_ok-parts-in-Some-clause-known : goal.call_judged-returns-in_ok-parts-in-Some-clause-known
call_judged-returns-in_ok-parts-in-Some-clause-known g t c =
    let env = plain_env (g.S.Site.site c.args.env.now.site.now) c.args.types.now c.args.env.now.locals.now.locals.items c.args.env.now.asserting in
    let rows = c.parts_judged.new.types in
    let same = (env_kept (g.S.Site.site c.args.env.now.site.now) c.args.types.now c.callee.new.types c.args.env.now.locals.now.locals.items c.args.env.now.asserting c.callee.ensures.kept c.requires.locals) in
    let listed = args_some env c.args.call.now.args c.in-Some.list c.in-Some.is in
    let is = c.in_ok-parts-in-Some.ensures.known.are ∙ ap (λ (x : rules.Env). silents (judged_list x (values c.in-Some.list))) same ∙ ap silents (sym listed) in
    let meant = callee_kept c.callee.new.types rows _ _ _ _ _ c.parts_judged.ensures.kept c.in_ok-callee.ensures.is in
    IfOk-weaker c.call-in-Some.result _ _ (λ r h. call_known rows env c.args.call.now c.in_ok-parts-in-Some.parts.items r is (h env _ _ (record { site = c.requires.here; same = refl }) meant)) c.call-in-Some.ensures.known

pub call_judged-returns-in_ok-parts-in-Some-clause-told : goal.call_judged-returns-in_ok-parts-in-Some-clause-told
call_judged-returns-in_ok-parts-in-Some-clause-told g t c =
    let env = plain_env (g.S.Site.site c.args.env.now.site.now) c.args.types.now c.args.env.now.locals.now.locals.items c.args.env.now.asserting in
    let rows = c.parts_judged.new.types in
    let same = (env_kept (g.S.Site.site c.args.env.now.site.now) c.args.types.now c.callee.new.types c.args.env.now.locals.now.locals.items c.args.env.now.asserting c.callee.ensures.kept c.requires.locals) in
    let listed = args_some env c.args.call.now.args c.in-Some.list c.in-Some.is in
    let is = c.in_ok-parts-in-Some.ensures.known.are ∙ ap (λ (x : rules.Env). silents (judged_list x (values c.in-Some.list))) same ∙ ap silents (sym listed) in
    let meant = callee_kept c.callee.new.types rows _ _ _ _ _ c.parts_judged.ensures.kept c.in_ok-callee.ensures.is in
    on_ok_weaker c.call-in-Some.result (λ h. call_told rows env c.args.call.now c.in_ok-parts-in-Some.parts.items c.count-count.result c.args.first.now c.callee.new.first c.parts_judged.new.first _ is c.count-count.ensures c.in_ok-callee.ensures.told
    (c.in_ok-parts-in-Some.ensures.told ∙ ap (λ (x : rules.Env). least c.callee.new.first (all_faults (judged_list x (values c.in-Some.list)))) same ∙ ap (λ (ds : List rules.Judged). least c.callee.new.first (all_faults ds)) (sym listed)) h) (c.call-in-Some.ensures.told env _ _ (record { site = c.requires.here; same = refl }) meant)

pub new_judged-returns-in-None-clause-known : goal.new_judged-returns-in-None-clause-known
new_judged-returns-in-None-clause-known g t c =
    let env = plain_env (g.S.Site.site c.args.env.now.site.now) c.args.types.now c.args.env.now.locals.now.locals.items c.args.env.now.asserting in
    let rows = c.made.new.types in
    let none = values_none env (out-New c.args.new.now).inits c.in-None.is in
    let set = inits_known rows env c.args.new.now c.deref.result.now c.new.result.items (ap names c.deref.ensures.value ∙ c.in_ok-set.ensures) (ap (knowns rows) c.new.ensures.items ∙ ap silents (sym none)) in
    IfOk-weaker c.new_struct.result _ _ (λ r h. new_known c.new_struct.new.types env c.args.new.now r (h env _ _ _ _ (record { site = c.requires.here; same = refl }) c.in_ok-made.ensures.is set)) c.new_struct.ensures.known

pub new_judged-returns-in-None-clause-told : goal.new_judged-returns-in-None-clause-told
new_judged-returns-in-None-clause-told g t c =
    let env = plain_env (g.S.Site.site c.args.env.now.site.now) c.args.types.now c.args.env.now.locals.now.locals.items c.args.env.now.asserting in
    let rows = c.made.new.types in
    let none = values_none env (out-New c.args.new.now).inits c.in-None.is in
    let set = inits_known rows env c.args.new.now c.deref.result.now c.new.result.items (ap names c.deref.ensures.value ∙ c.in_ok-set.ensures) (ap (knowns rows) c.new.ensures.items ∙ ap silents (sym none)) in
    on_ok_weaker c.new_struct.result (λ h. new_told env c.args.new.now c.args.first.now c.made.new.first c.made.new.first _ c.in_ok-made.ensures.told
    (sym (least_none c.made.new.first) ∙ ap (λ (ds : List rules.Judged). least c.made.new.first (all_faults ds)) (sym none)) h) (c.new_struct.ensures.told env _ _ _ _ (record { site = c.requires.here; same = refl }) c.in_ok-made.ensures.is set)

pub new_judged-returns-clause-known : goal.new_judged-returns-clause-known
new_judged-returns-clause-known g t c =
    let env = plain_env (g.S.Site.site c.args.env.now.site.now) c.args.types.now c.args.env.now.locals.now.locals.items c.args.env.now.asserting in
    let rows = c.values_judged.new.types in
    let same = (env_kept (g.S.Site.site c.args.env.now.site.now) c.args.types.now c.made.new.types c.args.env.now.locals.now.locals.items c.args.env.now.asserting c.made.ensures.kept c.requires.locals) in
    let listed = values_some env (out-New c.args.new.now).inits c.in-Some.list c.in-Some.is in
    let is = c.in_ok-values-in-Some.ensures.known.are ∙ ap (λ (x : rules.Env). silents (judged_list x (c.in-Some.list.first.value ∷ member_values c.in-Some.list.more))) same ∙ ap silents (sym listed) in
    let set = inits_known rows env c.args.new.now c.deref-in-Some.result.now c.in_ok-values-in-Some.values.items (ap names c.deref-in-Some.ensures.value ∙ c.in_ok-set.ensures) is in
    let meant = made_kept c.made.new.types rows _ _ _ _ _ c.values_judged.ensures.kept c.in_ok-made.ensures.is in
    IfOk-weaker c.new_struct-in-Some.result _ _ (λ r h. new_known c.new_struct-in-Some.new.types env c.args.new.now r (h env _ _ _ _ (record { site = c.requires.here; same = refl }) meant set)) c.new_struct-in-Some.ensures.known

pub new_judged-returns-clause-told : goal.new_judged-returns-clause-told
new_judged-returns-clause-told g t c =
    let env = plain_env (g.S.Site.site c.args.env.now.site.now) c.args.types.now c.args.env.now.locals.now.locals.items c.args.env.now.asserting in
    let rows = c.values_judged.new.types in
    let same = (env_kept (g.S.Site.site c.args.env.now.site.now) c.args.types.now c.made.new.types c.args.env.now.locals.now.locals.items c.args.env.now.asserting c.made.ensures.kept c.requires.locals) in
    let listed = values_some env (out-New c.args.new.now).inits c.in-Some.list c.in-Some.is in
    let is = c.in_ok-values-in-Some.ensures.known.are ∙ ap (λ (x : rules.Env). silents (judged_list x (c.in-Some.list.first.value ∷ member_values c.in-Some.list.more))) same ∙ ap silents (sym listed) in
    let set = inits_known rows env c.args.new.now c.deref-in-Some.result.now c.in_ok-values-in-Some.values.items (ap names c.deref-in-Some.ensures.value ∙ c.in_ok-set.ensures) is in
    let meant = made_kept c.made.new.types rows _ _ _ _ _ c.values_judged.ensures.kept c.in_ok-made.ensures.is in
    on_ok_weaker c.new_struct-in-Some.result (λ h. new_told env c.args.new.now c.args.first.now c.made.new.first c.values_judged.new.first _ c.in_ok-made.ensures.told
    (c.in_ok-values-in-Some.ensures.told ∙ ap (λ (x : rules.Env). least c.made.new.first (all_faults (judged_list x (c.in-Some.list.first.value ∷ member_values c.in-Some.list.more)))) same ∙ ap (λ (ds : List rules.Judged). least c.made.new.first (all_faults ds)) (sym listed)) h) (c.new_struct-in-Some.ensures.told env _ _ _ _ (record { site = c.requires.here; same = refl }) meant set)

pub parts_judged-loop-member-init : goal.parts_judged-loop-member-init
parts_judged-loop-member-init g t c =
    let env = plain_env (g.S.Site.site c.args.env.now.site.now) c.args.types.now c.args.env.now.locals.now.locals.items c.args.env.now.asserting in
    record {
      kept = c.expr_judged.ensures.kept;
      known = parts_first c.expr_judged.new.types c.push.new.self.items c.in_ok-expr_judged.field-0 (judged env c.args.list.now.first) c.in_ok-expr_judged.ensures.known (c.in_ok-push.ensures.items ∙ ap (λ (xs : List Judged). xs ++ c.in_ok-expr_judged.field-0 ∷ []) c.new-out.ensures.items);
      told = parts_begun (judged env c.args.list.now.first) (map (λ (m : Member Expr). judged env m.value) c.as_slice-member-items.result.now) c.args.first.now c.expr_judged.new.first c.in_ok-expr_judged.ensures.told;
    }

pub parts_judged-loop-member-preserved : goal.parts_judged-loop-member-preserved
parts_judged-loop-member-preserved g t c =
    let env = plain_env (g.S.Site.site c.args.env.now.site.now) c.args.types.now c.args.env.now.locals.now.locals.items c.args.env.now.asserting in
    let same = (env_kept (g.S.Site.site c.args.env.now.site.now) c.args.types.now c.loop-member.types c.args.env.now.locals.now.locals.items c.args.env.now.asserting c.loop-member.invariant.kept c.requires.locals) in
    record {
      kept = keeps_twice c.args.types.now c.loop-member.types c.expr_judged-in-loop-member.new.types c.loop-member.invariant.kept c.expr_judged-in-loop-member.ensures.kept;
      known = parts_further c.loop-member.types c.expr_judged-in-loop-member.new.types (λ (m : Member Expr). judged env m.value) (judged env c.args.list.now.first) c.as_slice-member-items.result.now c.loop-member.member-index c.member-item.result c.loop-member.out.items c.push-in-loop-member.new.self.items c.in_ok-expr_judged-2.field-0
          c.expr_judged-in-loop-member.ensures.kept c.member-item.is c.loop-member-test.true c.loop-member.invariant.known c.in_ok-push-2.ensures.items (knows_env c.expr_judged-in-loop-member.new.types env _ c.member-item.result.value c.in_ok-expr_judged-2.field-0 same c.in_ok-expr_judged-2.ensures.known);
      told = parts_told (λ (m : Member Expr). judged env m.value) c.as_slice-member-items.result.now c.loop-member.member-index c.member-item.result c.loop-member.first c.expr_judged-in-loop-member.new.first _ c.member-item.is c.loop-member-test.true c.loop-member.invariant.told
          (told_env env _ c.member-item.result.value c.loop-member.first c.expr_judged-in-loop-member.new.first same c.in_ok-expr_judged-2.ensures.told);
    }

pub parts_judged-returns-clause-known : goal.parts_judged-returns-clause-known
parts_judged-returns-clause-known g t c =
    let env = plain_env (g.S.Site.site c.args.env.now.site.now) c.args.types.now c.args.env.now.locals.now.locals.items c.args.env.now.asserting in
    parts_end c.loop-member.types (judged env) (λ (m : Member Expr). m.value) (judged env c.args.list.now.first) c.as_slice-member-items.result.now c.args.list.now.more c.loop-member.member-index c.loop-member.out.items c.as_slice-member-items.ensures c.loop-member-test.false c.loop-member.invariant.known

pub parts_judged-returns-clause-told : goal.parts_judged-returns-clause-told
parts_judged-returns-clause-told g t c =
    let env = plain_env (g.S.Site.site c.args.env.now.site.now) c.args.types.now c.args.env.now.locals.now.locals.items c.args.env.now.asserting in
    parts_all_told (judged env) (λ (m : Member Expr). m.value) (judged env c.args.list.now.first) c.as_slice-member-items.result.now c.args.list.now.more c.loop-member.member-index c.args.first.now c.loop-member.first c.as_slice-member-items.ensures c.loop-member-test.false c.loop-member.invariant.told

pub values_judged-loop-member-init : goal.values_judged-loop-member-init
values_judged-loop-member-init g t c =
    let env = plain_env (g.S.Site.site c.args.env.now.site.now) c.args.types.now c.args.env.now.locals.now.locals.items c.args.env.now.asserting in
    record {
      kept = c.expr_judged.ensures.kept;
      known = parts_first c.expr_judged.new.types c.push.new.self.items c.in_ok-expr_judged.field-0 (judged env c.args.list.now.first.value) c.in_ok-expr_judged.ensures.known (c.in_ok-push.ensures.items ∙ ap (λ (xs : List Judged). xs ++ c.in_ok-expr_judged.field-0 ∷ []) c.new-out.ensures.items);
      told = parts_begun (judged env c.args.list.now.first.value) (map (λ (m : Member Init). judged env (m.value).value) c.as_slice-member-items.result.now) c.args.first.now c.expr_judged.new.first c.in_ok-expr_judged.ensures.told;
    }

pub values_judged-expr_judged-requires-in-loop-member : goal.values_judged-expr_judged-requires-in-loop-member
values_judged-expr_judged-requires-in-loop-member g t c =
    let stands = g.S.Site.grows c.args.env.now.site.now c.args.types.now c.loop-member.types c.loop-member.invariant.kept c.requires.stands in
    let locals : LocalsWithin c.loop-member.types c.args.env.now.locals.now.locals.items = locals_within_kept c.args.types.now c.loop-member.types c.args.env.now.locals.now.locals.items c.loop-member.invariant.kept c.requires.locals in
    search (common.rules, the_lemmas)

pub values_judged-loop-member-preserved : goal.values_judged-loop-member-preserved
values_judged-loop-member-preserved g t c =
    let env = plain_env (g.S.Site.site c.args.env.now.site.now) c.args.types.now c.args.env.now.locals.now.locals.items c.args.env.now.asserting in
    let same = (env_kept (g.S.Site.site c.args.env.now.site.now) c.args.types.now c.loop-member.types c.args.env.now.locals.now.locals.items c.args.env.now.asserting c.loop-member.invariant.kept c.requires.locals) in
    record {
      kept = keeps_twice c.args.types.now c.loop-member.types c.expr_judged-in-loop-member.new.types c.loop-member.invariant.kept c.expr_judged-in-loop-member.ensures.kept;
      known = parts_further c.loop-member.types c.expr_judged-in-loop-member.new.types (λ (m : Member Init). judged env (m.value).value) (judged env c.args.list.now.first.value) c.as_slice-member-items.result.now c.loop-member.member-index c.member-item.result c.loop-member.out.items c.push-in-loop-member.new.self.items c.in_ok-expr_judged-2.field-0
          c.expr_judged-in-loop-member.ensures.kept c.member-item.is c.loop-member-test.true c.loop-member.invariant.known c.in_ok-push-2.ensures.items (knows_env c.expr_judged-in-loop-member.new.types env _ c.member-item.result.value.value c.in_ok-expr_judged-2.field-0 same c.in_ok-expr_judged-2.ensures.known);
      told = parts_told (λ (m : Member Init). judged env (m.value).value) c.as_slice-member-items.result.now c.loop-member.member-index c.member-item.result c.loop-member.first c.expr_judged-in-loop-member.new.first _ c.member-item.is c.loop-member-test.true c.loop-member.invariant.told
          (told_env env _ c.member-item.result.value.value c.loop-member.first c.expr_judged-in-loop-member.new.first same c.in_ok-expr_judged-2.ensures.told);
    }

pub values_judged-returns-clause-known : goal.values_judged-returns-clause-known
values_judged-returns-clause-known g t c =
    let env = plain_env (g.S.Site.site c.args.env.now.site.now) c.args.types.now c.args.env.now.locals.now.locals.items c.args.env.now.asserting in
    parts_end c.loop-member.types (judged env) (λ (m : Member Init). (m.value).value) (judged env c.args.list.now.first.value) c.as_slice-member-items.result.now c.args.list.now.more c.loop-member.member-index c.loop-member.out.items c.as_slice-member-items.ensures c.loop-member-test.false c.loop-member.invariant.known

pub values_judged-returns-clause-told : goal.values_judged-returns-clause-told
values_judged-returns-clause-told g t c =
    let env = plain_env (g.S.Site.site c.args.env.now.site.now) c.args.types.now c.args.env.now.locals.now.locals.items c.args.env.now.asserting in
    parts_all_told (judged env) (λ (m : Member Init). (m.value).value) (judged env c.args.list.now.first.value) c.as_slice-member-items.result.now c.args.list.now.more c.loop-member.member-index c.args.first.now c.loop-member.first c.as_slice-member-items.ensures c.loop-member-test.false c.loop-member.invariant.told
