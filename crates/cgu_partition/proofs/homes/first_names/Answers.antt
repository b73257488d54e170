use Rattle.std.proofs.Common.{◌≡◌, ◌<◌, ℕ, List, length, map, ap, ◌∙◌, subst, sym}
use Rattle.std.specs.Prelude.{All}
use Rattle.std.proofs.lemmas.Result.{IfOk-weaker}
use Rattle.text_order.specs.TextOrder.{text_at, text_order}
use Rattle.text_order.proofs.Ordered.{order_inside}
use Rattle.mono_items.specs.Homes.{homes, first_names}
use Rattle.cgu_partition.proofs.homes.first_names.Goals as goal

pub texts_at-requires : goal.texts_at-requires
texts_at-requires c = subst (λ (ps : List ℕ). All (λ p. p < length c.as_slice-2.result.now) ps) (sym (c.as_slice-3.ensures.value ∙ c.in_ok-order.ensures ∙ ap text_order (c.as_slice.ensures.value ∙ sym c.as_slice-2.ensures.value))) (order_inside c.as_slice-2.result.now)

pub returns : goal.returns
unfolding first_names
returns c =
    let hs : c.as_slice-2.result.now ≡ homes c.args.items.now = c.as_slice-2.ensures.value ∙ c.in_ok-homes.ensures in
    let order : c.as_slice-3.result.now ≡ text_order (homes c.args.items.now) = c.as_slice-3.ensures.value ∙ c.in_ok-order.ensures ∙ ap text_order (c.as_slice.ensures.value ∙ c.in_ok-homes.ensures) in
    IfOk-weaker c.texts_at.result _ _ (λ names h. h ∙ ap (λ (ts : List (List ℕ)). map (text_at ts) c.as_slice-3.result.now) hs ∙ ap (λ (ps : List ℕ). map (text_at (homes c.args.items.now)) ps) order) c.texts_at.ensures
