-- What the outcomes of a session tell of its units, without its events.
use Rattle.std.specs.Prelude.{◌≡◌, ◌⊎◌, ◌<◌, ℕ, Bool, false, List, Ok, Err}
use Rattle.coord_run.specs.declared.driven.Made.{Made as Outcome}
use Rattle.coord_run.specs.declared.driven.Made.TheVariants.{Made as Outcome-Made, Refused as Outcome-Refused, Wanted as Outcome-Wanted, Skipped as Outcome-Skipped}
use Rattle.coord_run.specs.Meaning.{Meaning}
use Rattle.coord_run.specs.Outcomes.{outcome_at}

module _ {F : Type 0} where
  abbrev pub IsMade : Outcome F → Type 0
  IsMade o = (bytes : List ℕ) × (o ≡ Outcome-Made bytes)

  -- an outcome after which later units may be skipped: want of memory, and where the session does not keep going a refusal
  abbrev pub Stops : Bool → Outcome F → Type 0
  Stops keep Outcome-Wanted = Unit {0}
  Stops false (Outcome-Refused f) = Unit {0}
  Stops _ _ = ⊥

  -- before each unit that was skipped there is one with such an outcome
  abbrev pub IsFirstTold : Bool → ℕ → List (Outcome F) → Type 0
  IsFirstTold keep n outcomes = (x : ℕ) → x < n → outcome_at outcomes x ≡ Outcome-Skipped → (b : ℕ) × (b < x) × Stops keep (outcome_at outcomes b)

module _ {P F : Type 0} where
  -- what came of unit x is what the work is defined to give
  abbrev pub IsDefined : Meaning P F → ℕ → Outcome F → Type 0
  IsDefined m x (Outcome-Made bytes) = m.made x ≡ Ok bytes
  IsDefined m x (Outcome-Refused f) = (m.generated x ≡ Err f) ⊎ (m.made x ≡ Err f)
  IsDefined m x Outcome-Wanted = Unit {0}
  IsDefined m x Outcome-Skipped = Unit {0}

  -- what is refused when it is generated is refused so when it is made: a unit has one fault
  abbrev pub HasOneFault : Meaning P F → Type 0
  HasOneFault m = (x : ℕ) (f : F) → m.generated x ≡ Err f → m.made x ≡ Err f

  -- the same of a work whose units have one fault
  abbrev pub IsMadeAs : Meaning P F → ℕ → Outcome F → Type 0
  IsMadeAs m x (Outcome-Made bytes) = m.made x ≡ Ok bytes
  IsMadeAs m x (Outcome-Refused f) = m.made x ≡ Err f
  IsMadeAs m x Outcome-Wanted = Unit {0}
  IsMadeAs m x Outcome-Skipped = Unit {0}
