use Rattle.std.proofs.Common.{rules, ◌≡◌}
use Rattle.std.specs.BTreeMap.{values}
use Rattle.text_order.specs.TextOrder.{text_order}
use Rattle.text_order.proofs.Indexed.{order_is}
use Rattle.text_order.proofs.texts.order_of_texts.Goals as goal

pub loop-place-init : goal.loop-place-init
loop-place-init c = let v : values c.in_ok-index.index ≡ text_order c.args.texts.now = order_is c.args.texts.now c.in_ok-index.index c.in_ok-index.ensures.entries in search rules
