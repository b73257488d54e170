use Rattle.std.proofs.Common.{◌∙◌, ap}
use Rattle.std.proofs.lemmas.Result.{IfOk-weaker}
use Rattle.text_order.specs.TextOrder.{text_order}
use Rattle.mono_collect.proofs.Rooted.{order_fits, roots_are}
use Rattle.mono_collect.proofs.roots.root_places.Goals as goal

pub roots_among-requires : goal.roots_among-requires
roots_among-requires c = order_fits c.args.functions.now c.as_slice-2.result.now (c.as_slice-2.ensures.value ∙ c.in_ok-order.ensures ∙ ap text_order (c.as_slice.ensures.value ∙ c.in_ok-paths.ensures))

pub returns : goal.returns
returns c = IfOk-weaker c.roots_among.result _ _ (λ roots h. roots_are c.args.functions.now c.as_slice-2.result.now roots.items (c.as_slice-2.ensures.value ∙ c.in_ok-order.ensures ∙ ap text_order (c.as_slice.ensures.value ∙ c.in_ok-paths.ensures)) h) c.roots_among.ensures
