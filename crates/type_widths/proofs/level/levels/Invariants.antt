use Rattle.std.proofs.Common.{◌≡◌, length}
use Rattle.type_widths.specs.Level.{AreLevels}
use Rattle.type_widths.proofs.level.levels.Given as goal

abbrev pub invariant-loop-number : goal.invariant-loop-number
invariant-loop-number l = record { count : length l.levels.items ≡ l.number; known : AreLevels l.types l.structs l.levels.items }
