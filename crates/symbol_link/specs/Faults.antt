-- Why objects are not linked: a symbol that is defined twice, and one that is not defined.
use Rattle.std.specs.Prelude.{◌≡◌, ℕ, ◌+◌, List, [], ◌∷◌, ◌++◌, length, Bool, true, false, Option, Some, None, Result, Ok, Err}
use Rattle.std.specs.Option.{option_or}
use Rattle.lar_bytes.specs.declared.memory.OrMemory.{OrMemory}
use Rattle.lar_bytes.specs.declared.memory.OrMemory.TheVariants.{Refused, Memory}
use Rattle.symbol_link.specs.declared.definitions.Definition.{Definition}
use Rattle.symbol_link.specs.declared.fault.LinkFault.{LinkFault}
use Rattle.symbol_link.specs.declared.fault.LinkFault.TheVariants.{Twice, Undefined}
use Rattle.object_format.specs.Object.{Unlinked, UnlinkedFn}
use Rattle.symbol_link.specs.Symbols.{definition_of}

-- the refusal of a function of `second` with this symbol, where it is external and the symbol was defined before
abbrev pub again : Bool → List ℕ → Option Definition → ℕ → Option LinkFault
again true symbol (Some earlier) second = Some (Twice symbol earlier.object second)
again true symbol None second = None
again false symbol earlier second = None

-- the first of the functions of `second` that defines an external symbol again, where `earlier` are the definitions before
abbrev pub twice_in : (List ℕ → Option Definition) → ℕ → List UnlinkedFn → Option LinkFault
twice_in earlier second [] = None
twice_in earlier second (f ∷ fs) = option_or (again f.external f.symbol (earlier f.symbol) second) (twice_in earlier second fs)

-- the first of the later objects that defines an external symbol of an earlier object again
abbrev pub twice_after : List Unlinked → List Unlinked → Option LinkFault
twice_after earlier [] = None
twice_after earlier (o ∷ os) = option_or (twice_in (definition_of earlier) (length earlier) o.functions) (twice_after (earlier ++ o ∷ []) os)

abbrev pub twice : List Unlinked → Option LinkFault
twice = twice_after []

-- the refusal of this external of an object, where nothing defines it
abbrev pub missing : List ℕ → Option Definition → ℕ → Option LinkFault
missing symbol (Some d) object = None
missing symbol None object = Some (Undefined symbol object)

-- the first of the object's externals that none of these definitions is of
abbrev pub undefined_in : (List ℕ → Option Definition) → ℕ → List (List ℕ) → Option LinkFault
undefined_in definitions object [] = None
undefined_in definitions object (e ∷ es) = option_or (missing e (definitions e) object) (undefined_in definitions object es)

-- the same of objects with numbers from this one on
abbrev pub undefined_from : (List ℕ → Option Definition) → ℕ → List Unlinked → Option LinkFault
undefined_from definitions object [] = None
undefined_from definitions object (o ∷ os) = option_or (undefined_in definitions object o.externals) (undefined_from definitions (object + 1) os)

abbrev pub undefined : List Unlinked → Option LinkFault
undefined objects = undefined_from (definition_of objects) 0 objects

-- the fault that is wanted, or want of memory, of which nothing is said
abbrev pub FaultIs : OrMemory LinkFault → Option LinkFault → Type 0
FaultIs Memory wanted = Unit {0}
FaultIs (Refused fault) wanted = wanted ≡ Some fault

-- the wanted fault, or none where none is wanted
abbrev pub Checks : Option LinkFault → Result (Unit {0}) (OrMemory LinkFault) → Type 0
Checks wanted (Ok x) = wanted ≡ None
Checks wanted (Err e) = FaultIs e wanted
