use Rattle.std.proofs.Common.{◌≡◌, ◌++◌, take}
use Rattle.std.specs.List.{flat_map}
use Rattle.object_format.specs.Object.{symbol_spelling}
use Rattle.object_format.proofs.object_writing.write_externals.Given as goal

abbrev pub invariant-loop-symbol : goal.invariant-loop-symbol
invariant-loop-symbol l = l.out ≡ l.initial.out ++ flat_map symbol_spelling (take l.symbol-index l.externals)
