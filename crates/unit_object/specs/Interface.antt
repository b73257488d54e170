-- What a linker has to know of a unit: the symbols of its functions, in order, and which of them other units may call; and the
-- symbols of its externals, in order.
use Rattle.std.specs.Prelude.{ℕ, Bool, List, map}
use Rattle.object_format.specs.Object.{Unlinked}
use Rattle.unit_input.specs.Inputs.{PlainInput}

-- a function by its symbol; external: other units may call it
pub record NamedFn : Type 0 where
  pub symbol : List ℕ
  pub external : Bool

pub record Interface : Type 0 where
  pub functions : List NamedFn
  pub externals : List (List ℕ)

-- of a unit, by its input
abbrev pub input_interface : PlainInput → Interface
input_interface x = record { functions = map (λ f. record { symbol = f.symbol; external = f.external }) x.functions; externals = map (λ e. e.symbol) x.externals }

-- of an object
abbrev pub object_interface : Unlinked → Interface
object_interface o = record { functions = map (λ f. record { symbol = f.symbol; external = f.external }) o.functions; externals = o.externals }
