-- What holds of every lawful run.
use Rattle.std.specs.Prelude.{◌≡◌, ℕ, ◌+◌, ◌*◌, ◌<◌, ◌≤◌, Bool, false, ◌||◌, List, [], ◌∷◌, ◌++◌, length, Option, Some, None, option_to_list, unwrap_or, if◌then◌else◌}
use Rattle.counting.specs.Count.{one_if, times, total}
use Rattle.coord_core.specs.declared.event.Event.{Event}
use Rattle.coord_core.specs.declared.event.Event.TheVariants.{Took, Empty, TakeFault, Generated, GenFailed, Made, MakeFailed, Wanted}
use Rattle.coord_core.specs.declared.event.Main.{Main}
use Rattle.coord_core.specs.declared.event.Main.TheVariants.{Idle, Generate, Lend}
use Rattle.coord_core.specs.declared.event.Actions.{Actions}
use Rattle.coord_core.specs.declared.queue.Queued.{Queued}
use Rattle.coord_core.specs.declared.terms.Terms.{Terms}
use Rattle.coord_core.specs.State.{State, one_some, owns, payers, queued_at, running_at, in_hand, bytes_in, byte_at, is_gen, precedes}
use Rattle.coord_core.specs.Decide.{may_generate}
use Rattle.coord_core.specs.Run.{run, step, answers, Lawful}
use Rattle.coord_core.specs.Journal.{took_by, gave_by, lost_by, begun_by, jobs_by, failed, lowered, covered, begun, jobs, up_to, least, of_unit, of_ask, of_give}

-- at most one job or generation is on the implicit slot; the jobs and the generation are at most one more than the bytes that pay; the bytes that pay or are spare and an ask that is out leave a lane for the slot
pub record Bounded (lanes : ℕ) (s : State) : Type 0 where
  pub own : owns s.running + one_some s.gen ≤ 1
  pub out : length s.running + one_some s.gen ≤ payers s.running + 1
  pub held : payers s.running + one_some s.spare + one_if s.asking + 1 ≤ lanes

-- nothing is out and nothing is left to do, and each unit below the bar was made, or where the run keeps going made or refused
pub record Complete (s : State) (events : List Event) : Type 0 where
  pub running : s.running ≡ []
  pub gen : s.gen ≡ None
  pub asking : s.asking ≡ false
  pub giving : s.giving ≡ []
  pub queue : s.queue ≡ []
  pub rest : may_generate s ≡ false
  pub covered : (i : ℕ) → i < s.bar → 1 ≤ times i (covered s.terms.keep events)

-- the bar is the least unit whose failure lowers it, and above all units where there is none; each unit that failed is one of the run
pub record Barred (terms : Terms) (s : State) (events : List Event) : Type 0 where
  pub bar : s.bar ≡ unwrap_or (least (lowered terms.keep events)) terms.units
  pub units : (i : ℕ) → 1 ≤ times i (failed events) → i < terms.units

-- m is the least of the numbers
pub record IsLeast (numbers : List ℕ) (m : ℕ) : Type 0 where
  pub among : 1 ≤ times m numbers
  pub below : (x : ℕ) → 1 ≤ times x numbers → m ≤ x

-- units are generated in order, each once, and no unit is started twice
pub record InOrder (terms : Terms) (events : List Event) : Type 0 where
  pub begun : begun (answers terms events) ≡ up_to (run terms events).next
  pub most : (run terms events).next ≤ terms.units
  pub once : (x : ℕ) → times x (jobs (answers terms events)) ≤ 1

-- no unit is twice in hand, and each was generated or is being so
pub record InHand (n : ℕ) (s : State) : Type 0 where
  pub once : (x : ℕ) → in_hand x s ≤ 1
  pub below : (x : ℕ) → 1 ≤ in_hand x s → x < s.next
  pub most : s.next ≤ n

-- a lawful run goes on by the event
pub record GoesOn (terms : Terms) (events : List Event) (e : Event) : Type 0 where
  pub lawful : Lawful terms (events ++ e ∷ [])
  pub run : run terms (events ++ e ∷ []) ≡ step (run terms events) e

-- how many events there are of units, of asks and of gives
pub record Few (n : ℕ) (events : List Event) : Type 0 where
  pub units : total of_unit events ≤ 2 * n
  pub asks : total of_ask events ≤ 3 * n
  pub gives : total of_give events ≤ 3 * n

-- how long the lists can get
pub record Fits (n : ℕ) (s : State) : Type 0 where
  pub queue : length s.running + length s.queue + one_some s.gen ≤ n
  pub giving : bytes_in s ≤ n + n + n

-- the generation and the ask that the decisions leave
abbrev pub gen_or : Main → Option ℕ → Option ℕ
gen_or Idle g = g
gen_or (Generate i) g = Some i
gen_or (Lend i) g = g

-- what the decisions change, told by their actions
pub record Acted (s t : State) (a : Actions) : Type 0 where
  pub running : (x : ℕ) → running_at x t.running ≡ running_at x s.running + times x (jobs_by a)
  pub count : length t.running ≡ length s.running + length (jobs_by a)
  pub queue : (x : ℕ) → queued_at x t.queue + times x (jobs_by a) ≡ queued_at x s.queue
  pub queue_count : length t.queue + length (jobs_by a) ≡ length s.queue
  pub giving : t.giving ≡ s.giving ++ option_to_list a.give
  pub gen : t.gen ≡ gen_or a.main s.gen
  pub begun : (i : ℕ) → a.main ≡ Generate i → (i ≡ s.next) × (s.gen ≡ None) × (i < s.terms.units) × (s.bar ≡ s.terms.units)
  pub next : t.next ≡ s.next + length (begun_by a.main)
  pub asking : t.asking ≡ (s.asking || a.ask)
  pub bytes : bytes_in t ≡ bytes_in s
  pub byte : (x : ℕ) → byte_at x t ≡ byte_at x s
  pub spare : t.spare ≡ None
  pub terms : t.terms ≡ s.terms
  pub bar : t.bar ≡ s.bar

-- the job that an event ends
abbrev pub ended_by : Event → Option ℕ → List ℕ
ended_by (Made i) g = i ∷ []
ended_by (MakeFailed i) g = i ∷ []
ended_by (Wanted i) g = if is_gen i g then [] else i ∷ []
ended_by _ g = []

-- the unit that an event makes ready to run
abbrev pub ready_by : Event → List ℕ
ready_by (Generated i c) = i ∷ []
ready_by _ = []

-- the generation and the ask that an event leaves
abbrev pub gen_by : Event → Option ℕ → Option ℕ
gen_by (Generated i c) g = None
gen_by (GenFailed i) g = None
gen_by (Wanted i) g = if is_gen i g then None else g
gen_by _ g = g

abbrev pub asking_by : Event → Bool → Bool
asking_by (Took b) a = false
asking_by Empty a = false
asking_by TakeFault a = false
asking_by _ a = a

-- what an event changes
pub record Told (e : Event) (s t : State) : Type 0 where
  pub running : (x : ℕ) → running_at x t.running + times x (ended_by e s.gen) ≡ running_at x s.running
  pub count : length t.running + length (ended_by e s.gen) ≡ length s.running
  pub queue : (x : ℕ) → queued_at x t.queue ≤ queued_at x s.queue + times x (ready_by e)
  pub giving : (x : ℕ) → times x t.giving + times x (gave_by e) + times x (lost_by e) ≡ times x s.giving
  pub gen : t.gen ≡ gen_by e s.gen
  pub asking : t.asking ≡ asking_by e s.asking
  pub bytes : bytes_in t + length (gave_by e) + length (lost_by e) ≡ bytes_in s + length (took_by e)
  pub byte : (x : ℕ) → byte_at x t + times x (gave_by e) + times x (lost_by e) ≡ byte_at x s + times x (took_by e)
  pub next : t.next ≡ s.next
  pub terms : t.terms ≡ s.terms

-- none of these starts before e
abbrev pub NoneBefore : Queued → List Queued → Type 0
NoneBefore e [] = Unit {0}
NoneBefore e (x ∷ xs) = (precedes x e ≡ false) × NoneBefore e xs

-- none starts before one that stands before it
abbrev pub IsOrdered : List Queued → Type 0
IsOrdered [] = Unit {0}
IsOrdered (x ∷ xs) = NoneBefore x xs × IsOrdered xs
