-- What the entries of a session tell, and which list of entries is a session's journal.
use Rattle.std.specs.Prelude.{◌≡◌, ℕ, ◌+◌, max, true, List, [], ◌∷◌, ◌++◌, length, All, Option, Some, None, Ok}
use Rattle.counting.specs.Count.{times}
use Rattle.lease_table.specs.declared.reading.Reading.{Reading}
use Rattle.lease_table.specs.Reading.{IsBegun}
use Rattle.token_pool.specs.Pool.{Bag}
use Rattle.coord_core.specs.declared.terms.Terms.{Terms}
use Rattle.coord_core.specs.declared.event.Event.{Event}
use Rattle.coord_core.specs.declared.event.Event.TheVariants.{Empty, TakeFault, Generated, GenFailed, Made, MakeFailed, Wanted, GiveFault}
use Rattle.coord_core.specs.State.{State, payers, one_some}
use Rattle.coord_core.specs.Effect.{effect}
use Rattle.coord_core.specs.Run.{opened, step, run, Lawful, is_finished}
use Rattle.coord_core.specs.Journal.{took, gave}
use Rattle.coord_core.specs.Laws.{ended_by}
use Rattle.coord_run.specs.declared.driven.Entry.{Entry}
use Rattle.coord_run.specs.Meaning.{Meaning}
use Rattle.coord_run.specs.Turns.{InTurn}

abbrev pub events_of : List Entry → List Event
events_of [] = []
events_of (x ∷ xs) = x.event ∷ events_of xs

module _ {A : Type 0} where
  -- it holds at each place of a list, of the members before and the one there
  abbrev pub AtEach : (List A → A → Type 0) → List A → Type 0
  AtEach At xs = (before after : List A) (x : A) → xs ≡ before ++ x ∷ after → At before x

-- the unit that an event is about: what came of its generation or its job
abbrev pub unit_of : Event → Option ℕ
unit_of (Generated i c) = Some i
unit_of (GenFailed i) = Some i
unit_of (Made i) = Some i
unit_of (MakeFailed i) = Some i
unit_of (Wanted i) = Some i
unit_of _ = None

-- the readings with their units, in order
abbrev pub reading_by : Option ℕ → Option Reading → List (Option ℕ × Reading)
reading_by unit (Some r) = (unit, r) ∷ []
reading_by unit None = []

abbrev pub readings_of : List Entry → List (Option ℕ × Reading)
readings_of [] = []
readings_of (x ∷ xs) = reading_by (unit_of x.event) x.reading ++ readings_of xs

-- the bytes that pay jobs or are spare
abbrev pub held_in : State → ℕ
held_in s = payers s.running + one_some s.spare

-- the most bytes that paid or were spare at any of these events, before the decisions on it or after them
abbrev pub greatest_from : State → List Event → ℕ
greatest_from s [] = 0
greatest_from s (e ∷ es) = max (max (held_in (effect e s)) (held_in (step s e))) (greatest_from (step s e) es)

abbrev pub greatest : Terms → List Event → ℕ
greatest terms events = greatest_from (opened terms) events

-- an entry that is about a unit has a reading, in which no more are held than most, and no other entry has one
abbrev pub IsRead : ℕ → Option ℕ → Option Reading → Type 0
IsRead most (Some i) (Some r) = IsBegun most r
IsRead most None None = Unit {0}
IsRead most _ _ = ⊥

abbrev pub HasReading : Terms → List Entry → Entry → Type 0
HasReading terms before x = IsRead (greatest terms (events_of before ++ x.event ∷ [])) (unit_of x.event) x.reading

-- how many jobs the events end
abbrev pub ended_from : State → List Event → ℕ
ended_from s [] = 0
ended_from s (e ∷ es) = length (ended_by e s.gen) + ended_from (step s e) es

abbrev pub jobs_ended : Terms → List Event → ℕ
jobs_ended terms events = ended_from (opened terms) events

-- 1 for a call of the pool that failed
abbrev pub of_fault : Event → ℕ
of_fault TakeFault = 1
of_fault (GiveFault b) = 1
of_fault _ = 0

-- of these free bytes none is left after these events
abbrev pub NoneLeft : Bag → List Event → Type 0
NoneLeft free events = (x : ℕ) → free x + times x (gave events) ≡ times x (took events)

abbrev pub IsEmptyAt : Bag → List Event → Event → Type 0
IsEmptyAt free before Empty = NoneLeft free before
IsEmptyAt free before _ = Unit {0}

-- an Empty stands only where no byte was free, if the free bytes are told
abbrev pub Empties : Option Bag → List Event → Type 0
Empties (Some free) events = AtEach (IsEmptyAt free) events
Empties None events = Unit {0}

module _ {P F : Type 0} where
  -- a unit was generated at its cost
  abbrev pub HasCost : Meaning P F → Event → Type 0
  HasCost m (Generated i c) = (part : P) × (m.generated i ≡ Ok (part, c))
  HasCost m _ = Unit {0}

  -- the journal of a session of this work on these terms: a lawful run of the coordinator that ends finished, whose events come in their turn, with the work's costs and with readings
  pub record IsJournal (m : Meaning P F) (terms : Terms) (entries : List Entry) : Type 0 where
    pub lawful : Lawful terms (events_of entries)
    pub finished : is_finished (run terms (events_of entries)) ≡ true
    pub turns : InTurn terms (events_of entries)
    pub costs : All (HasCost m) (events_of entries)
    pub readings : AtEach (HasReading terms) entries
