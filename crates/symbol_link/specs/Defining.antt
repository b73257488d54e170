-- What defining the external functions of objects comes to.
use Rattle.std.specs.Prelude.{◌≡◌, ℕ, List, Option, Some, None, Result, Ok, Err, ◌&&◌, if◌then◌else◌}
use Rattle.std.specs.List.{AllByRecursion}
use Rattle.std.specs.Option.{option_or}
use Rattle.std.specs.Str.{bytes_eq}
use Rattle.lar_bytes.specs.declared.memory.OrMemory.{OrMemory}
use Rattle.object_format.specs.Object.{Unlinked, UnlinkedFn, IsUnlinked}
use Rattle.symbol_link.specs.declared.definitions.Definition.{Definition}
use Rattle.symbol_link.specs.declared.definitions.Definitions.{Definitions}
use Rattle.symbol_link.specs.declared.fault.LinkFault.{LinkFault}
use Rattle.symbol_link.specs.Faults.{FaultIs, again, twice_in, twice}
use Rattle.symbol_link.specs.Found.{found}
use Rattle.symbol_link.specs.Symbols.{defined_by, definition_of}

-- the function is defined where it is external and was not before, and nothing else changes
abbrev pub DefinesOne : (List ℕ → Option Definition) → (List ℕ → Option Definition) → UnlinkedFn → ℕ → ℕ → Result (Unit {0}) (OrMemory LinkFault) → Type 0
DefinesOne earlier now f object place (Ok x) =
    (again f.external f.symbol (earlier f.symbol) object ≡ None)
    × ((q : List ℕ) → now q ≡ (if f.external && bytes_eq f.symbol q then Some (record { object = object; place = place }) else earlier q))
DefinesOne earlier now f object place (Err e) = FaultIs e (again f.external f.symbol (earlier f.symbol) object)

-- the same of the functions of an object, the first of which has the place `start`
abbrev pub DefinesFunctions : (List ℕ → Option Definition) → (List ℕ → Option Definition) → List UnlinkedFn → ℕ → ℕ → Result (Unit {0}) (OrMemory LinkFault) → Type 0
DefinesFunctions earlier now fs object start (Ok x) =
    (twice_in earlier object fs ≡ None) × ((q : List ℕ) → now q ≡ option_or (earlier q) (defined_by object start fs q))
DefinesFunctions earlier now fs object start (Err e) = FaultIs e (twice_in earlier object fs)

-- and of all objects, from nothing; besides, each of them keeps the rules of objects
abbrev pub DefinesAll : List Unlinked → Result Definitions (OrMemory LinkFault) → Type 0
DefinesAll objects (Ok definitions) =
    (twice objects ≡ None) × ((q : List ℕ) → found definitions q ≡ definition_of objects q) × AllByRecursion IsUnlinked objects
DefinesAll objects (Err e) = FaultIs e (twice objects)
