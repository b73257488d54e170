use Rattle.std.proofs.Common.{◌≡◌, drop}
use Rattle.symbol_link.specs.Sizes.{left_of, sizes_of}
use Rattle.symbol_link.proofs.sizing.room_behind_all.Given as goal

abbrev pub invariant-loop-object : goal.invariant-loop-object
invariant-loop-object l = left_of l.room (sizes_of (drop l.object-index l.objects)) ≡ left_of l.initial.room (sizes_of l.objects)
