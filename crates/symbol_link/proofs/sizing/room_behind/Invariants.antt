use Rattle.std.proofs.Common.{◌≡◌, drop}
use Rattle.symbol_link.specs.Sizes.{left_of, size_of}
use Rattle.symbol_link.proofs.sizing.room_behind.Given as goal

abbrev pub invariant-loop-function : goal.invariant-loop-function
invariant-loop-function l = left_of l.room (size_of (drop l.function-index l.functions)) ≡ left_of l.initial.room (size_of l.functions)
