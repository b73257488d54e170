use Rattle.std.proofs.Common.{◌≡◌, ◌∷◌, map, take, drop}
use Rattle.type_table.specs.Rows.{Keeps}
use Rattle.lar_rules.specs.Fault.{least}
use Rattle.lar_rules.specs.Judged.{all_faults}
use Rattle.lar_judge.specs.Envs.{plain_env}
use Rattle.lar_exprs.specs.Walks.{judged, AllKnown}
use Rattle.lar_exprs.proofs.expr.+judging.Given as goal

abbrev pub invariant-parts_judged-loop-member : goal.invariant-parts_judged-loop-member
invariant-parts_judged-loop-member g l = record {
  kept : Keeps l.fn.types l.types;
  known : AllKnown l.types l.out.items (judged (plain_env (g.S.Site.site l.env.site.now) l.fn.types l.env.locals.now.locals.items l.env.asserting) l.list.first ∷ map (λ m. judged (plain_env (g.S.Site.site l.env.site.now) l.fn.types l.env.locals.now.locals.items l.env.asserting) m.value) (take l.member-index l.member-items));
  told : least l.first (all_faults (map (λ m. judged (plain_env (g.S.Site.site l.env.site.now) l.fn.types l.env.locals.now.locals.items l.env.asserting) m.value) (drop l.member-index l.member-items))) ≡ least l.fn.first (all_faults (judged (plain_env (g.S.Site.site l.env.site.now) l.fn.types l.env.locals.now.locals.items l.env.asserting) l.list.first ∷ map (λ m. judged (plain_env (g.S.Site.site l.env.site.now) l.fn.types l.env.locals.now.locals.items l.env.asserting) m.value) l.member-items));
}

abbrev pub invariant-values_judged-loop-member : goal.invariant-values_judged-loop-member
invariant-values_judged-loop-member g l = record {
  kept : Keeps l.fn.types l.types;
  known : AllKnown l.types l.out.items (judged (plain_env (g.S.Site.site l.env.site.now) l.fn.types l.env.locals.now.locals.items l.env.asserting) l.list.first.value ∷ map (λ m. judged (plain_env (g.S.Site.site l.env.site.now) l.fn.types l.env.locals.now.locals.items l.env.asserting) (m.value).value) (take l.member-index l.member-items));
  told : least l.first (all_faults (map (λ m. judged (plain_env (g.S.Site.site l.env.site.now) l.fn.types l.env.locals.now.locals.items l.env.asserting) (m.value).value) (drop l.member-index l.member-items))) ≡ least l.fn.first (all_faults (judged (plain_env (g.S.Site.site l.env.site.now) l.fn.types l.env.locals.now.locals.items l.env.asserting) l.list.first.value ∷ map (λ m. judged (plain_env (g.S.Site.site l.env.site.now) l.fn.types l.env.locals.now.locals.items l.env.asserting) (m.value).value) l.member-items));
}
