-- What a call of drive needs and gives.
use Rattle.std.specs.Prelude.{◌≡◌, ℕ, ◌<◌, ◌≤◌, List, [], ◌++◌, length}
use Rattle.counting.specs.Count.{times, total}
use Rattle.lease_table.specs.Desk.{DeskState}
use Rattle.token_pool.specs.Pool.{PoolState, Dealt, FreeMoved, Moved, no_byte}
use Rattle.coord_core.specs.declared.terms.Terms.{Terms}
use Rattle.coord_core.specs.declared.event.Event.{Event}
use Rattle.coord_core.specs.Journal.{took, gave, lost}
use Rattle.coord_run.specs.declared.driven.Entry.{Entry}
use Rattle.coord_run.specs.declared.driven.Driven.{Driven}
use Rattle.coord_run.specs.Meaning.{Meaning}
use Rattle.coord_run.specs.Journal.{events_of, readings_of, of_fault, jobs_ended, Empties, IsJournal}
use Rattle.coord_run.specs.Outcomes.{AreOutcomes}

-- the desk is of the work's table and has its one share and no token, whatever was done at it before; the units and lanes are within their limits
pub record IsReady {P F : Type 0} (m : Meaning P F) (lanes : ℕ) (desk : DeskState) : Type 0 where
  pub some_lane : 0 < lanes
  pub most_lanes : lanes ≤ 64
  pub most_units : m.count ≤ 65536
  pub table : desk.table ≡ m.table
  pub held : desk.held ≡ 0
  pub share : desk.share ≡ 1

-- the pool went from one state to the other by the calls that the events tell
abbrev pub Called : PoolState → List Event → PoolState → Type 0
Called before events after = Dealt before (λ x. times x (took events)) (λ x. times x (gave events)) (length (took events)) (total of_fault events) after

-- each byte that was taken was given back or is lost, and a lost one is owed still
pub record IsRepaid (before : PoolState) (events : List Event) (bytes : List ℕ) (after : PoolState) : Type 0 where
  pub called : Called before events after
  pub empties : Empties before.free events
  pub lost_are : bytes ≡ lost events
  pub owed : Moved before.owed (λ x. times x bytes) no_byte after.owed
  pub free : FreeMoved before.free no_byte (λ x. times x bytes) after.free

-- every share is back at the desk, which has seen the readings of the entries
pub record IsBack (before : DeskState) (entries : List Entry) (after : DeskState) : Type 0 where
  pub table : after.table ≡ before.table
  pub held : after.held ≡ 0
  pub share : after.share ≡ 1
  pub out : after.out ≡ []
  pub seen : after.seen ≡ before.seen ++ readings_of entries

-- what a session gives, of this work on these terms, from these states of desk and pool
pub record IsDriven {P F : Type 0} (m : Meaning P F) (terms : Terms) (desk : DeskState) (pool : PoolState) (d : Driven F) (desk' : DeskState) (pool' : PoolState) : Type 0 where
  pub journal : IsJournal m terms d.journal.items
  pub outcomes : AreOutcomes m terms.keep (events_of d.journal.items) d.outcomes.items
  pub tally : d.tally ≡ jobs_ended terms (events_of d.journal.items)
  pub back : IsBack desk d.journal.items desk'
  pub repaid : IsRepaid pool (events_of d.journal.items) d.lost pool'
