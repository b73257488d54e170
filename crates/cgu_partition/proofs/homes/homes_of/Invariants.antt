use Rattle.std.proofs.Common.{◌≡◌, take}
use Rattle.mono_items.specs.Homes.{homes}
use Rattle.cgu_partition.proofs.homes.homes_of.Given as goal

abbrev pub invariant-loop-item : goal.invariant-loop-item
invariant-loop-item l = l.names.items ≡ homes (take l.item-index l.items)
