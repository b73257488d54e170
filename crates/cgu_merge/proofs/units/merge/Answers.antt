use Rattle.std.proofs.Common.{◌≡◌, ◌<◌, ◌^◌, ℕ, List, [], length, map, ap, ◌∙◌, subst, sym}
use Rattle.cgu_merge.specs.Merging.{Merged, merged_units}
use Rattle.cgu_merge.specs.Ranked.{Ranked, plain, shown_by_name, ranked_later, ranked_merged, ranked_order, IsApart, weight, AreInside, finished}
use Rattle.cgu_merge.proofs.Names.{start_apart, start_weight, left_apart, named_same, named_inside, ranked_named}
use Rattle.std.proofs.lemmas.Result.{IfOk-weaker}
use Rattle.cgu_merge.proofs.units.merge.Goals as goal

pub join_least-requires-clause-apart : goal.join_least-requires-clause-apart
join_least-requires-clause-apart c = subst IsApart (sym c.in_ok-units.ensures) (start_apart c.args.names.now c.requires.names c.args.sizes.now)

pub join_least-requires-clause-fits : goal.join_least-requires-clause-fits
join_least-requires-clause-fits c = subst (λ (n : ℕ). n < 2 ^ 64) (sym (ap weight c.in_ok-units.ensures ∙ start_weight c.args.sizes.now)) c.requires.fits

pub name_order-requires : goal.name_order-requires
name_order-requires c = subst IsApart (sym (c.in_ok-join_least.ensures ∙ ap (λ us. ranked_merged c.args.limit us) c.in_ok-units.ensures)) (left_apart c.args.names.now c.requires.names c.args.sizes.now c.args.limit)

pub with_names-requires : goal.with_names-requires
with_names-requires c = subst (AreInside (length c.args.names.now)) (sym (c.in_ok-named.ensures ∙ ap (λ us. ranked_order ranked_later [] us) (c.in_ok-join_least.ensures ∙ ap (λ us. ranked_merged c.args.limit us) c.in_ok-units.ensures))) (named_inside c.args.names.now c.requires.names c.args.sizes.now c.requires.sizes c.args.limit)

pub returns : goal.returns
returns c =
    let left : map shown_by_name c.in_ok-named.named.entries ≡ ranked_named c.args.sizes.now c.args.limit = c.in_ok-named.ensures ∙ ap (λ us. ranked_order ranked_later [] us) (c.in_ok-join_least.ensures ∙ ap (λ us. ranked_merged c.args.limit us) c.in_ok-units.ensures) in
    let same : map plain (map shown_by_name c.in_ok-named.named.entries) ≡ merged_units c.args.names.now c.args.sizes.now c.args.limit = ap (λ (us : List Ranked). map plain us) left ∙ named_same c.args.names.now c.requires.names c.args.sizes.now c.requires.sizes c.args.limit in
    IfOk-weaker c.with_names.result _ _ (λ us h. h ∙ ap (λ (vs : List Merged). map (finished c.args.names.now) vs) same) c.with_names.ensures
