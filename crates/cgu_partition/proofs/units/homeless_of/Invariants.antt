use Rattle.std.proofs.Common.{◌≡◌, take}
use Rattle.mono_items.specs.Units.{homeless}
use Rattle.cgu_partition.proofs.units.homeless_of.Given as goal

abbrev pub invariant-loop-item : goal.invariant-loop-item
invariant-loop-item l = l.free.items ≡ homeless (take l.item-index l.items)
