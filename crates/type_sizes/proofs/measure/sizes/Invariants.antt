use Rattle.std.proofs.Common.{◌≡◌, length}
use Rattle.type_sizes.specs.Sizes.{AreSizes}
use Rattle.type_sizes.proofs.measure.sizes.Given as goal

abbrev pub invariant-loop-number : goal.invariant-loop-number
invariant-loop-number l = record { count : length l.known.items ≡ l.number; known : AreSizes l.types l.known.items }
