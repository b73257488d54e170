-- What a unit's input is lowered to: the intermediate form of each function, or the fault of the first function that has one.
use Rattle.std.specs.Prelude.{ℕ, suc, Bool, ◌||◌, Option, Some, None, Result, Ok, Err, List, [], ◌∷◌, map, if◌then◌else◌}
use Rattle.unit_input.specs.Inputs as input
use Rattle.unit_input.specs.Widths.{Scope, scope_of, params_width}
use Rattle.unit_ir.specs.declared.fault.UnitFault.{UnitFault}
use Rattle.unit_ir.specs.Stmts.{PlainStmts}
use Rattle.unit_ir.specs.Units.{PlainFn, PlainUnit}
use Rattle.unit_lower.specs.Slots.{local_slots}
use Rattle.unit_lower.specs.Lowering.{Lowered, lower_stmts}
use Rattle.unit_lower.specs.declared.assertions.Failure.{Failure}
use Rattle.unit_lower.specs.Assertions.{assertions, first_failure}
use Rattle.unit_lower.specs.Wide.{is_over, are_wide_stmts}

-- a function's body, and how many slots the function has
abbrev pub lowered_body : Scope → input.PlainFn → Lowered PlainStmts
lowered_body s f = lower_stmts s f.body (local_slots s)

-- more than 255 slots, or something wider than 255 words
abbrev pub is_too_wide : Scope → input.PlainFn → Bool
is_too_wide s f = is_over (lowered_body s f).next || is_over f.«result» || are_wide_stmts s f.body

-- the fault of a function: its first assertion that traps (31) or is false (30), or else 32
abbrev pub with_width : Bool → Option Failure → Option Failure
with_width too_wide (Some failure) = Some failure
with_width too_wide None = if too_wide then Some (record { code = 32; number = 0 }) else None

abbrev pub failure_of : Scope → input.PlainFn → Option Failure
failure_of s f = with_width (is_too_wide s f) (first_failure 0 (assertions f.body))

-- a function that has no fault
abbrev pub lowered_in : Scope → input.PlainFn → PlainFn
lowered_in s f = record {
  symbol = f.symbol;
  external = f.external;
  params = params_width f;
  «result» = f.«result»;
  slots = (lowered_body s f).next;
  body = (lowered_body s f).made;
}

abbrev pub lowered_fn : input.PlainInput → input.PlainFn → PlainFn
lowered_fn x f = lowered_in (scope_of x f) f

-- as the fault of the function with this number, or else what the later ones come to
abbrev pub named : ℕ → Option Failure → Option UnitFault → Option UnitFault
named n None later = later
named n (Some failure) later = Some (record { code = failure.code; function = n; assertion = failure.number })

-- the first function with a fault, where the first has this number
abbrev pub first_fault : input.PlainInput → ℕ → List input.PlainFn → Option UnitFault
first_fault x n [] = None
first_fault x n (f ∷ fs) = named n (failure_of (scope_of x f) f) (first_fault x (suc n) fs)

abbrev pub or_unit : PlainUnit → Option UnitFault → Result PlainUnit UnitFault
or_unit u None = Ok u
or_unit u (Some fault) = Err fault

abbrev pub lowered : input.PlainInput → Result PlainUnit UnitFault
lowered x = or_unit (record { functions = map (lowered_fn x) x.functions; externals = map (λ e. e.symbol) x.externals }) (first_fault x 0 x.functions)
