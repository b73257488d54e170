use Rattle.std.proofs.Common.{◌≡◌, ◌++◌}
use Rattle.text_order.specs.TextOrder.{text_order}
use Rattle.text_order.proofs.texts.order_of_texts.Given as goal

abbrev pub invariant-loop-place : goal.invariant-loop-place
invariant-loop-place l = l.order.items ++ l.place-iterator ≡ text_order l.texts
