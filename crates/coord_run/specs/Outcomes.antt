-- What the events tell of the units.
use Rattle.std.specs.Prelude.{◌≡◌, ℕ, ◌<◌, ◌==◌, Bool, false, List, [], ◌∷◌, length, filter, slice_index_or, Option, Some, None, Ok, Err}
use Rattle.coord_core.specs.declared.event.Event.{Event}
use Rattle.coord_core.specs.declared.event.Event.TheVariants.{GenFailed, Made, MakeFailed, Wanted}
use Rattle.coord_core.specs.Journal.{lowered, least}
use Rattle.coord_run.specs.declared.driven.Made.{Made as Outcome}
use Rattle.coord_run.specs.declared.driven.Made.TheVariants.{Made as Outcome-Made, Refused as Outcome-Refused, Wanted as Outcome-Wanted, Skipped as Outcome-Skipped}
use Rattle.coord_run.specs.Meaning.{Meaning}

-- the event tells what came of unit x
abbrev pub is_outcome_of : ℕ → Event → Bool
is_outcome_of x (GenFailed i) = x == i
is_outcome_of x (Made i) = x == i
is_outcome_of x (MakeFailed i) = x == i
is_outcome_of x (Wanted i) = x == i
is_outcome_of x _ = false

abbrev pub outcomes_of : ℕ → List Event → List Event
outcomes_of x events = filter (is_outcome_of x) events

-- unit x is after this one, if there is one
abbrev pub IsAfter : Option ℕ → ℕ → Type 0
IsAfter (Some bar) x = bar < x
IsAfter None x = ⊥

module _ {F : Type 0} where
  abbrev pub outcome_at : List (Outcome F) → ℕ → Outcome F
  outcome_at outcomes x = slice_index_or outcomes x Outcome-Skipped

module _ {P F : Type 0} where
  -- an event tells this outcome of unit x, and it is what the work is defined to give
  abbrev pub Tells : Meaning P F → ℕ → Event → Outcome F → Type 0
  Tells m x (Made i) (Outcome-Made bytes) = m.made x ≡ Ok bytes
  Tells m x (GenFailed i) (Outcome-Refused f) = m.generated x ≡ Err f
  Tells m x (MakeFailed i) (Outcome-Refused f) = m.made x ≡ Err f
  Tells m x (Wanted i) Outcome-Wanted = Unit {0}
  Tells m x _ _ = ⊥

  -- there is at most one such event, and none where the unit was skipped
  abbrev pub TellsOne : Meaning P F → ℕ → List Event → Outcome F → Type 0
  TellsOne m x [] o = o ≡ Outcome-Skipped
  TellsOne m x (e ∷ []) o = Tells m x e o
  TellsOne m x (e ∷ e' ∷ es) o = ⊥

  -- each outcome is the one that the events tell. A skipped unit is after the least one whose failure lowered the bar
  pub record AreOutcomes (m : Meaning P F) (keep : Bool) (events : List Event) (outcomes : List (Outcome F)) : Type 0 where
    pub width : length outcomes ≡ m.count
    pub tells : (x : ℕ) → TellsOne m x (outcomes_of x events) (outcome_at outcomes x)
    pub skipped : (x : ℕ) → x < m.count → outcome_at outcomes x ≡ Outcome-Skipped → IsAfter (least (lowered keep events)) x
