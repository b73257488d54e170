-- The object of a unit, or the fault of its first function whose code is too long.
use Rattle.std.specs.Prelude.{ℕ, ◌+◌, nat_lt, if◌then◌else◌, List, [], ◌∷◌, map, Option, Some, None, Result, Ok, Err}
use Rattle.object_format.specs.Code.{Instruction, spelled}
use Rattle.object_format.specs.Object.{UnlinkedFn, object_spelling}
use Rattle.object_format.specs.Version.{max_code}
use Rattle.unit_ir.specs.declared.fault.UnitFault.{UnitFault}
use Rattle.unit_ir.specs.Units.{PlainFn, PlainUnit}
use Rattle.unit_emit.specs.Code.{bytes, function_code}

abbrev pub code_of : PlainFn → List Instruction
code_of f = function_code f.body f.result

abbrev pub object_fn : PlainFn → UnlinkedFn
object_fn f = record { symbol = f.symbol; external = f.external; params = f.params; «result» = f.result; slots = f.slots; code = spelled (code_of f) }

-- the number of the first function whose code is too long, where the first of these has number n
abbrev pub first_long : ℕ → List PlainFn → Option ℕ
first_long n [] = None
first_long n (f ∷ fs) = if nat_lt max_code (bytes (code_of f)) then Some n else first_long (n + 1) fs

abbrev pub long_or : {A : Type 0} → A → Option ℕ → Result A UnitFault
long_or made None = Ok made
long_or made (Some k) = Err (record { code = 33; function = k; assertion = 0 })

-- the functions of the object
abbrev pub emitted_functions : PlainUnit → Result (List UnlinkedFn) UnitFault
emitted_functions u = long_or (map object_fn u.functions) (first_long 0 u.functions)

-- its spelling
abbrev pub emitted : PlainUnit → Result (List ℕ) UnitFault
emitted u = long_or (object_spelling (record { functions = map object_fn u.functions; externals = u.externals })) (first_long 0 u.functions)
