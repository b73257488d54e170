-- The locals of a body and what it stands in, in the numbers of a table.
use Rattle.std.specs.Prelude.{◌≡◌, ℕ, List, ◌++◌, Option}
use Rattle.type_table.specs.declared.row.Row.{Row}
use Rattle.lar_rules.specs.Written.{Site}
use Rattle.lar_rules.specs.Bodies as rules
use Rattle.lar_judge.specs.declared.locals.Local.{Local}
use Rattle.lar_judge.specs.Known.{type_if}
use Rattle.lar_judge.specs.Locals.{locals_in, LocalsWithin}
use Rattle.lar_judge.specs.Wanted.{types_if, AllIfWithin}
use Rattle.lar_stmts.specs.declared.state.State.{State}

-- the body of a function of this site and result
abbrev pub body_in : List Row → Site → Option ℕ → rules.Body
body_in rows site outcome = record { site = site; outcome = type_if rows outcome }

abbrev pub state_in : List Row → State → rules.State
state_in rows s = record { locals = locals_in rows s.locals.locals.items; types = types_if rows s.types.items }

-- the types of its locals are rows of the table
pub record StateWithin (rows : List Row) (s : State) : Type 0 where
  pub locals : LocalsWithin rows s.locals.locals.items
  pub types : AllIfWithin rows s.types.items

-- the code knows of the locals what the rules know
pub record StateIs (rows : List Row) (s : State) (d : rules.State) : Type 0 where
  pub within : StateWithin rows s
  pub is : state_in rows s ≡ d

-- further locals are in scope, behind those that were
pub record IsLonger (old new : List Local) : Type 0 where
  pub more : List Local
  pub is : new ≡ old ++ more
