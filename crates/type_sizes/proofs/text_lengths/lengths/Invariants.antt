use Rattle.std.proofs.Common.{◌≡◌, length}
use Rattle.type_sizes.specs.Lengths.{AreLengths}
use Rattle.type_sizes.proofs.text_lengths.lengths.Given as goal

abbrev pub invariant-loop-number : goal.invariant-loop-number
invariant-loop-number l = record { count : length l.known.items ≡ l.number; known : AreLengths l.types l.structs l.generics l.known.items }
