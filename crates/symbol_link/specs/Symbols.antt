-- Where external symbols are defined. An object stands here as its functions and externals, in order.
use Rattle.std.specs.Prelude.{ℕ, ◌+◌, List, [], ◌∷◌, length, Option, Some, None, ◌&&◌, if◌then◌else◌}
use Rattle.std.specs.Option.{option_map, option_or}
use Rattle.std.specs.Str.{bytes_eq}
use Rattle.symbol_link.specs.declared.definitions.Definition.{Definition}
use Rattle.object_format.specs.Object.{Unlinked, UnlinkedFn}

-- the first of these functions, at places from this one on, that defines the symbol externally
abbrev pub place_among : ℕ → List UnlinkedFn → List ℕ → Option ℕ
place_among place [] symbol = None
place_among place (f ∷ fs) symbol = if f.external && bytes_eq f.symbol symbol then Some place else place_among (place + 1) fs symbol

-- the same as a definition by the object of this number
abbrev pub defined_by : ℕ → ℕ → List UnlinkedFn → List ℕ → Option Definition
defined_by object place fs symbol = option_map (λ found. record { object = object; place = found }) (place_among place fs symbol)

-- the first of these objects, with numbers and places from these on, that defines the symbol
abbrev pub defined_from : ℕ → ℕ → List Unlinked → List ℕ → Option Definition
defined_from object place [] symbol = None
defined_from object place (o ∷ os) symbol = option_or (defined_by object place o.functions symbol) (defined_from (object + 1) (place + length o.functions) os symbol)

-- how many functions objects have
abbrev pub function_count : List Unlinked → ℕ
function_count [] = 0
function_count (o ∷ os) = length o.functions + function_count os

-- the first of all objects that defines it
abbrev pub definition_of : List Unlinked → List ℕ → Option Definition
definition_of = defined_from 0 0

-- the place of a symbol's definition; of none it is never asked
abbrev pub place_of : Option Definition → ℕ
place_of (Some d) = d.place
place_of None = 0
