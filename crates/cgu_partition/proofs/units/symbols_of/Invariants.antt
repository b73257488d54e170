use Rattle.std.proofs.Common.{◌≡◌, take}
use Rattle.mono_items.specs.Units.{symbols_of}
use Rattle.cgu_partition.proofs.units.symbols_of.Given as goal

abbrev pub invariant-loop-item : goal.invariant-loop-item
invariant-loop-item l = l.symbols.items ≡ symbols_of l.typed (take l.item-index l.items)
