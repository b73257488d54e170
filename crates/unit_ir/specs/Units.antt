-- What a unit's intermediate form is, and the facts that it keeps.
use Rattle.std.specs.Prelude.{ℕ, ◌+◌, ◌<◌, ◌≤◌, ◌^◌, Bool, List, ◌++◌, length, map}
use Rattle.std.specs.List.{AllByRecursion, IsDistinct}
use Rattle.std.specs.Str.{bytes_eq}
use Rattle.unit_ir.specs.declared.function.IrFn.{IrFn}
use Rattle.unit_ir.specs.Stmts.{PlainStmts}
use Rattle.unit_ir.specs.StmtView.{stmts_view}
use Rattle.unit_ir.specs.InRange.{StmtsInRange}

-- a function: external is whether other units may call it, params and result count words
pub record PlainFn : Type 0 where
  pub symbol : List ℕ
  pub external : Bool
  pub params : ℕ
  pub «result» : ℕ
  pub slots : ℕ
  pub body : PlainStmts

-- a unit: its functions, and the symbols of those that it calls and does not have
pub record PlainUnit : Type 0 where
  pub functions : List PlainFn
  pub externals : List (List ℕ)

-- what the code has of a unit
pub record UnitParts : Type 0 where
  pub functions : List IrFn
  pub externals : List (List ℕ)

abbrev pub fn_view : IrFn → PlainFn
fn_view f = record { symbol = f.symbol; external = f.external; params = f.params; «result» = f.result; slots = f.slots; body = stmts_view f.body }

abbrev pub unit_view : UnitParts → PlainUnit
unit_view u = record { functions = map fn_view u.functions; externals = u.externals }

-- a byte that a symbol may have: a sign that can be seen
abbrev pub IsSymbolByte : ℕ → Type 0
IsSymbolByte b = (0x21 ≤ b) × (b ≤ 0x7e)

-- a symbol has a byte at least
pub record IsSymbol (s : List ℕ) : Type 0 where
  pub some : 0 < length s
  pub short : length s < 2 ^ 32
  pub signs : AllByRecursion IsSymbolByte s

-- what a function keeps where calls have so many numbers: parameters lie in slots, and each slot and call that its body names is there
pub record IsFn (callees : ℕ) (f : PlainFn) : Type 0 where
  pub symbol : IsSymbol f.symbol
  pub slots : f.slots ≤ 255
  pub params : f.params ≤ f.slots
  pub body : StmtsInRange f.slots callees f.body

-- the symbols of a unit, in the order of the numbers that its calls have for them
abbrev pub callees_of : PlainUnit → List (List ℕ)
callees_of u = map (λ f. f.symbol) u.functions ++ u.externals

-- how many they are
abbrev pub callee_count : PlainUnit → ℕ
callee_count u = length u.functions + length u.externals

-- what a unit keeps
pub record IsUnit (u : PlainUnit) : Type 0 where
  pub functions : length u.functions < 2 ^ 32
  pub externals : length u.externals < 2 ^ 32
  pub symbols : AllByRecursion IsSymbol u.externals
  pub distinct : IsDistinct bytes_eq (callees_of u)
  pub each : AllByRecursion (IsFn (callee_count u)) u.functions
