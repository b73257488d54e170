-- The object of a unit, by its input: lowered, optimised at the input's level, and emitted; or the first fault.
use Rattle.std.specs.Prelude.{◌≡◌, ℕ, List, map, Result, Ok, Err}
use Rattle.object_format.specs.Object.{Unlinked, SpellsObject, object_spelling}
use Rattle.unit_input.specs.Inputs.{PlainInput}
use Rattle.unit_ir.specs.declared.fault.UnitFault.{UnitFault}
use Rattle.unit_ir.specs.Units.{PlainUnit}
use Rattle.unit_lower.specs.LoweredUnit.{lowered}
use Rattle.unit_opt.specs.Optimised.{optimised}
use Rattle.unit_emit.specs.Object.{object_fn, first_long, long_or}

-- a unit's functions with their code, and its externals
abbrev pub object_parts : PlainUnit → Unlinked
object_parts u = record { functions = map object_fn u.functions; externals = u.externals }

-- the object of a unit of the intermediate form, or 33 for its first function whose code is too long
abbrev pub emitted_object : PlainUnit → Result Unlinked UnitFault
emitted_object u = long_or (object_parts u) (first_long 0 u.functions)

-- what is lowered, optimised at this level and emitted; a fault of lowering comes first
abbrev pub object_after : ℕ → Result PlainUnit UnitFault → Result Unlinked UnitFault
object_after level (Ok u) = emitted_object (optimised level u)
object_after level (Err fault) = Err fault

-- the object of a unit, or its fault
unfoldable pub object_of : PlainInput → Result Unlinked UnitFault
object_of x = object_after x.level (lowered x)

-- in place of an object its spelling
abbrev pub spelled_object : Result Unlinked UnitFault → Result (List ℕ) UnitFault
spelled_object (Ok o) = Ok (object_spelling o)
spelled_object (Err fault) = Err fault

-- the spelling of a unit's object, or its fault
abbrev pub bytes_of : PlainInput → Result (List ℕ) UnitFault
bytes_of x = spelled_object (object_of x)

-- these bytes are the spelling of the unit's object, and are read as that object
pub record IsBytesOf (x : PlainInput) (bytes : List ℕ) : Type 0 where
  pub object : Unlinked
  pub made : object_of x ≡ Ok object
  pub spells : SpellsObject bytes object
