-- What contracts see of a coordinator.
use Rattle.std.specs.Prelude.{◌≡◌, ℕ, ◌*◌, ◌<◌, ◌≤◌, Bool, List, ◌∷◌, [], ◌++◌, Option}
use Rattle.coord_core.specs.declared.event.Event.{Event}
use Rattle.coord_core.specs.declared.terms.Terms.{Terms}
use Rattle.coord_core.specs.State.{State}
use Rattle.coord_core.specs.Run.{run, Lawful}
use Rattle.coord_core.specs.Journal.{failed, least}

-- its terms, and the events that it was told
pub record CoreState : Type 0 where
  pub terms : Terms
  pub journal : List Event

abbrev pub core_state : Terms → List Event → CoreState
core_state terms journal = record { terms = terms; journal = journal }

abbrev pub terms_of : ℕ → ℕ → Bool → Terms
terms_of units lanes keep = record { units = units; lanes = lanes; keep = keep }

-- the state in which it is
abbrev pub state_in : CoreState → State
state_in c = run c.terms c.journal

-- it was told one event more
abbrev pub after_event : Event → CoreState → CoreState
after_event e c = record c { journal = c.journal ++ e ∷ [] }

-- the state that the code holds is that of a lawful run, the failure the least one, and the journal has room for all its events
pub record IsCore (now : State) (failure : Option ℕ) (journal : List Event) (capacity : ℕ) : Type 0 where
  pub state : now ≡ run now.terms journal
  pub lawful : Lawful now.terms journal
  pub failure_is : failure ≡ least (failed journal)
  pub some_lane : 0 < now.terms.lanes
  pub most_lanes : now.terms.lanes ≤ 64
  pub room : 8 * now.terms.units ≤ capacity
