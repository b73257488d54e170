-- Where the fault of a unit stands.
use Rattle.std.specs.Prelude.{◌≡◌, ◌<◌, ◌⊎◌, length, slice_get, Some}
use Rattle.unit_input.specs.Inputs.{PlainFn, PlainInput}
use Rattle.unit_ir.specs.declared.fault.UnitFault.{UnitFault}
use Rattle.unit_lower.specs.Assertions.{assertions}

-- that one of its assertions, which has this number in reading order, is false (30) or traps (31)
pub record IsOfAssertion (f : PlainFn) (fault : UnitFault) : Type 0 where
  pub code : (fault.code ≡ 30) ⊎ (fault.code ≡ 31)
  pub assertion : fault.assertion < length (assertions f.body)

-- that the function is too wide (32), or its code too long (33)
pub record IsOfFunction (fault : UnitFault) : Type 0 where
  pub code : (fault.code ≡ 32) ⊎ (fault.code ≡ 33)
  pub no_assertion : fault.assertion ≡ 0

-- the fault is one of the unit's function with its number
pub record StandsIn (x : PlainInput) (fault : UnitFault) : Type 0 where
  pub function : PlainFn
  pub number : slice_get x.functions fault.function ≡ Some function
  pub sort : IsOfAssertion function fault ⊎ IsOfFunction fault
