-- How many steps are counted for a unit: one where it is lowered, since it is made then, and none where it is not.
use Rattle.std.specs.Prelude.{◌≡◌, ℕ, ◌+◌, ◌≤◌, Result, Ok, Err}
use Rattle.lar_bytes.specs.declared.memory.OrMemory.{OrMemory}
use Rattle.lar_bytes.specs.declared.memory.OrMemory.TheVariants.{Refused, Memory}
use Rattle.unit_input.specs.Inputs.{PlainInput}
use Rattle.unit_ir.specs.declared.fault.UnitFault.{UnitFault}
use Rattle.unit_ir.specs.Units.{PlainUnit}
use Rattle.unit_lower.specs.LoweredUnit.{lowered}

abbrev pub steps_after : Result PlainUnit UnitFault → ℕ
steps_after (Ok u) = 1
steps_after (Err fault) = 0

-- the steps of a unit
unfoldable pub steps_of : PlainInput → ℕ
steps_of x = steps_after (lowered x)

-- just these are counted, or at most these where memory ran out
abbrev pub Counts : {Y : Type 0} → PlainInput → Result Y (OrMemory UnitFault) → ℕ → ℕ → Type 0
Counts x (Ok y) before after = after ≡ before + steps_of x
Counts x (Err (Refused fault)) before after = after ≡ before + steps_of x
Counts x (Err Memory) before after = (before ≤ after) × (after ≤ before + steps_of x)
