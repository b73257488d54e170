-- What all names are to contracts.
use Rattle.std.specs.Prelude.{ℕ, List, map}
use Rattle.lar_rules.specs.Declared.{Declared}
use Rattle.lar_names.specs.declared.names.Names.{Names}
use Rattle.lar_names.specs.Declarations.{declared_view}
use Rattle.lar_names.specs.Scopes.{list_at}

-- the lists of names of modules that the numbers of scopes stand for
abbrev pub scope_lists : Names → List (List (List ℕ))
scope_lists n = n.scopes

-- all declarations, in reading order
abbrev pub names_view : Names → List Declared
names_view n = map (declared_view (scope_lists n)) n.declared.items

-- the names of the modules of a scope; those of no module where no scope has the number
abbrev pub scope_view : Names → ℕ → List (List ℕ)
scope_view n here = list_at (scope_lists n) here
