use Rattle.std.proofs.Common.{◌≡◌, map, take}
use Rattle.text_order.specs.TextOrder.{text_at}
use Rattle.cgu_partition.proofs.homes.texts_at.Given as goal

abbrev pub invariant-loop-place : goal.invariant-loop-place
invariant-loop-place l = l.picked.items ≡ map (text_at l.texts) (take l.place-index l.places)
