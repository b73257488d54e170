-- What ties the books, the desk and the pool to one another between two steps of a session. No promise, but for the code and its proof alone.
use Rattle.std.specs.Prelude.{◌≡◌, ℕ, ◌+◌, ◌<◌, ◌≤◌, List, [], ◌∷◌, ◌++◌, length, All, true, false, ◌&&◌, ◌||◌, is_none, Option, Some, None, option_to_list}
use Rattle.counting.specs.Count.{times}
use Rattle.lease_table.specs.declared.reading.Reading.{Reading}
use Rattle.lease_table.specs.Desk.{DeskState}
use Rattle.token_pool.specs.Pool.{PoolState}
use Rattle.coord_core.specs.declared.terms.Terms.{Terms}
use Rattle.coord_core.specs.declared.event.Event.{Event}
use Rattle.coord_core.specs.State.{State, queued_at, running_at, bytes_in}
use Rattle.coord_core.specs.Run.{Lawful}
use Rattle.coord_core.specs.Journal.{lost}
use Rattle.coord_run.specs.declared.driven.Entry.{Entry}
use Rattle.coord_run.specs.declared.driven.Made.{Made as Outcome}
use Rattle.coord_run.specs.Meaning.{Meaning, IsPartOf}
use Rattle.coord_run.specs.Journal.{events_of, readings_of, greatest, jobs_ended, AtEach, HasReading, HasCost, Empties}
use Rattle.coord_run.specs.Outcomes.{outcomes_of, outcome_at, TellsOne}
use Rattle.coord_run.specs.Driven.{Called}
use Rattle.coord_run.specs.Turns.{InTurn}
use Rattle.coord_run.specs.Books.{BooksState, state_of, ask_first_of, part_at}

-- where a session began
pub record Start (P F : Type 0) : Type 0 where
  pub meaning : Meaning P F
  pub terms : Terms
  pub desk : DeskState
  pub pool : PoolState

-- due: jobs that are decided and not yet lent. waiting: jobs at the lanes. The bytes that are held pay, are spare or are being given; each job that runs is out at the desk, or due
pub record Paid (s : State) (due : List ℕ) (desk : DeskState) (waiting : ℕ) : Type 0 where
  pub held : desk.held ≡ bytes_in s
  pub share : desk.share + length s.running ≡ desk.held + 1 + length due
  pub out : (x : ℕ) → times x desk.out + times x due ≡ running_at x s.running
  pub waits : waiting + length due ≡ length s.running

-- the pool was called as the events tell
pub record Pooled (before : PoolState) (events : List Event) (bytes : List ℕ) (now : PoolState) : Type 0 where
  pub called : Called before events now
  pub empties : Empties before.free events
  pub lost_are : bytes ≡ lost events

module _ {P F : Type 0} where
  -- the part of unit x is there
  abbrev pub HasPart : Meaning P F → List (Option P) → ℕ → Type 0
  HasPart m parts x = (part : P) × (part_at parts x ≡ Some part) × IsPartOf m x part

  -- so is that of each unit that is queued or due
  abbrev pub HasParts : Meaning P F → List (Option P) → State → List ℕ → Type 0
  HasParts m parts s due = (x : ℕ) → 1 ≤ queued_at x s.queue + times x due → HasPart m parts x

  -- the books are those of the work, within the limits
  pub record Sized (c : Start P F) (terms : Terms) (outcomes parts : ℕ) : Type 0 where
    pub terms_are : terms ≡ c.terms
    pub units : terms.units ≡ c.meaning.count
    pub some_lane : 0 < terms.lanes
    pub most_lanes : terms.lanes ≤ 64
    pub most_units : terms.units ≤ 65536
    pub width : outcomes ≡ terms.units
    pub part_width : parts ≡ terms.units

  -- the entries have costs and readings, the desk's peak is no higher than what the session held, the desk has seen the readings, and the outcomes are those that the events tell
  pub record Noted (m : Meaning P F) (terms : Terms) (before : DeskState) (entries : List Entry) (outcomes : List (Outcome F)) (peak : ℕ) (seen : List (Option ℕ × Reading)) : Type 0 where
    pub costs : All (HasCost m) (events_of entries)
    pub readings : AtEach (HasReading terms) entries
    pub most : peak ≤ greatest terms (events_of entries)
    pub seen_is : seen ≡ before.seen ++ readings_of entries
    pub tells : (x : ℕ) → TellsOne m x (outcomes_of x (events_of entries)) (outcome_at outcomes x)

  pub record Tied (c : Start P F) (b : BooksState P F) (due : List ℕ) (desk : DeskState) (pool : PoolState) (waiting : ℕ) : Type 0 where
    pub table : desk.table ≡ c.meaning.table
    pub sized : Sized c b.terms (length b.outcomes) (length b.parts)
    pub lawful : Lawful b.terms (events_of b.entries)
    pub turns : InTurn b.terms (events_of b.entries)
    pub noted : Noted c.meaning b.terms c.desk b.entries b.outcomes desk.peak desk.seen
    pub paid : Paid (state_of b) due desk waiting
    pub pooled : Pooled c.pool (events_of b.entries) b.lost pool
    pub tally : b.tally ≡ jobs_ended b.terms (events_of b.entries)
    pub parts : HasParts c.meaning b.parts (state_of b) due

  -- What a step needs: it is tied to some start.
  -- What a step keeps: whatever start it is tied to, it stays tied to. So no step names its start.

  -- a step on the pool
  abbrev pub CanAsk : BooksState P F → DeskState → PoolState → Type 0
  CanAsk b d p = (c : Start P F) × (waiting : ℕ) × Tied c b [] d p waiting × ((state_of b).asking ≡ true) × ((state_of b).giving ≡ []) × ((is_none (state_of b).gen || ask_first_of b) ≡ true)

  abbrev pub CanGive : ℕ → BooksState P F → DeskState → PoolState → Type 0
  CanGive byte b d p = (c : Start P F) × (waiting : ℕ) × Tied c b [] d p waiting × ((state_of b).giving ≡ byte ∷ [])

  abbrev pub KeepsPool : BooksState P F → DeskState → PoolState → BooksState P F → List ℕ → DeskState → PoolState → Type 0
  KeepsPool b d p b' due' d' p' = (c : Start P F) (waiting : ℕ) → Tied c b [] d p waiting → Tied c b' due' d' p' waiting

  -- a generation
  abbrev pub CanGenerate : Meaning P F → ℕ → BooksState P F → DeskState → Type 0
  CanGenerate m x b d = (c : Start P F) × (p : PoolState) × (waiting : ℕ) × (c.meaning ≡ m) × Tied c b [] d p waiting × ((state_of b).gen ≡ Some x) × ((state_of b).giving ≡ []) × (((state_of b).asking && ask_first_of b) ≡ false)

  abbrev pub KeepsWork : Meaning P F → BooksState P F → DeskState → BooksState P F → List ℕ → DeskState → Type 0
  KeepsWork m b d b' due' d' = (c : Start P F) (p : PoolState) (waiting : ℕ) → c.meaning ≡ m → Tied c b [] d p waiting → Tied c b' due' d' p waiting

  -- a step on the lanes
  abbrev pub CanCollect : Meaning P F → BooksState P F → DeskState → ℕ → Type 0
  CanCollect m b d waiting = (c : Start P F) × (p : PoolState) × (c.meaning ≡ m) × Tied c b [] d p waiting × ((state_of b).gen ≡ None) × ((state_of b).giving ≡ []) × (1 ≤ waiting) × ((state_of b).asking ≡ false)

  abbrev pub CanFollow : Meaning P F → BooksState P F → List ℕ → DeskState → ℕ → Type 0
  CanFollow m b due d waiting = (c : Start P F) × (p : PoolState) × (c.meaning ≡ m) × Tied c b due d p waiting

  abbrev pub KeepsJobs : Meaning P F → BooksState P F → List ℕ → DeskState → ℕ → BooksState P F → List ℕ → DeskState → ℕ → Type 0
  KeepsJobs m b due d waiting b' due' d' waiting' = (c : Start P F) (p : PoolState) → c.meaning ≡ m → Tied c b due d p waiting → Tied c b' due' d' p waiting'

  -- the start of one job, if there is one, before others that are due
  abbrev pub CanStart : Meaning P F → BooksState P F → Option ℕ → DeskState → ℕ → Type 0
  CanStart m b job d waiting = (c : Start P F) × (p : PoolState) × (rest : List ℕ) × (c.meaning ≡ m) × Tied c b (option_to_list job ++ rest) d p waiting

  abbrev pub Starts : Meaning P F → BooksState P F → Option ℕ → DeskState → ℕ → BooksState P F → DeskState → ℕ → Type 0
  Starts m b job d waiting b' d' waiting' = (c : Start P F) (p : PoolState) (rest : List ℕ) → c.meaning ≡ m → Tied c b (option_to_list job ++ rest) d p waiting → Tied c b' rest d' p waiting'

  -- any step
  abbrev pub CanRun : Meaning P F → BooksState P F → List ℕ → DeskState → PoolState → ℕ → Type 0
  CanRun m b due d p waiting = (c : Start P F) × (c.meaning ≡ m) × Tied c b due d p waiting

  abbrev pub Runs : Meaning P F → BooksState P F → List ℕ → DeskState → PoolState → ℕ → BooksState P F → List ℕ → DeskState → PoolState → ℕ → Type 0
  Runs m b due d p waiting b' due' d' p' waiting' = (c : Start P F) → c.meaning ≡ m → Tied c b due d p waiting → Tied c b' due' d' p' waiting'
