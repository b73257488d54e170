-- What the code answers for functions. This is of the code alone.
use Rattle.std.specs.Prelude.{List, map, Option, Some, None, Result, Ok, Err}
use Rattle.unit_input.specs.Inputs.{PlainInput}
use Rattle.unit_ir.specs.declared.fault.UnitFault.{UnitFault}
use Rattle.unit_ir.specs.Units.{PlainFn}
use Rattle.unit_lower.specs.declared.assertions.Failure.{Failure}
use Rattle.unit_lower.specs.LoweredUnit.{lowered_fn, first_fault}

abbrev pub or_failure : PlainFn → Option Failure → Result PlainFn Failure
or_failure f None = Ok f
or_failure f (Some failure) = Err failure

abbrev pub or_fault : List PlainFn → Option UnitFault → Result (List PlainFn) UnitFault
or_fault fs None = Ok fs
or_fault fs (Some fault) = Err fault

-- the functions of a unit, or the fault of the first one that has one
abbrev pub functions_or : PlainInput → Result (List PlainFn) UnitFault
functions_or x = or_fault (map (lowered_fn x) x.functions) (first_fault x 0 x.functions)
