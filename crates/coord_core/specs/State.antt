-- The state of the coordinator, and what is read off its lists.
use Rattle.std.specs.Prelude.{ℕ, ◌+◌, ◌==◌, ◌&&◌, ◌||◌, nat_lt, Bool, true, false, List, [], ◌∷◌, length, Option, Some, None, is_none, option_map, find, if◌then◌else◌}
use Rattle.std.specs.List.{list_any}
use Rattle.counting.specs.Count.{one_if, times, total}
use Rattle.coord_core.specs.declared.job.Job.{Job}
use Rattle.coord_core.specs.declared.queue.Queued.{Queued}
use Rattle.coord_core.specs.declared.terms.Terms.{Terms}

-- terms: how many units there are, how many jobs may be out at once, and whether the run keeps going after a refusal
-- next: the unit to generate next, and gen: the one that is being generated
-- queue: the units to make, the next to start first, and running: the jobs that are out
-- bar: all units below it are made; the number of units, until a failure lowers it
-- asks: whether tokens may still be asked for, and asking: whether an ask is out
-- giving: the bytes that are being given back, and spare: a byte that pays nothing yet
pub record State : Type 0 where
  pub terms : Terms
  pub next : ℕ
  pub gen : Option ℕ
  pub queue : List Queued
  pub running : List Job
  pub bar : ℕ
  pub asks : Bool
  pub asking : Bool
  pub giving : List ℕ
  pub spare : Option ℕ

-- 1 for some value and 0 for none
abbrev pub one_some : Option ℕ → ℕ
one_some None = 0
one_some (Some x) = 1

-- 1 where x is the value
abbrev pub times_some : ℕ → Option ℕ → ℕ
times_some x None = 0
times_some x (Some y) = one_if (x == y)

-- how many jobs run on the implicit slot
abbrev pub owns : List Job → ℕ
owns js = total (λ j. one_if (is_none j.payer)) js

-- how many jobs a byte pays
abbrev pub payers : List Job → ℕ
payers js = total (λ j. one_some j.payer) js

-- how many jobs byte x pays
abbrev pub paid_at : ℕ → List Job → ℕ
paid_at x js = total (λ j. times_some x j.payer) js

-- how many jobs make unit x
abbrev pub running_at : ℕ → List Job → ℕ
running_at x js = total (λ j. one_if (x == j.unit)) js

-- how often unit x is queued
abbrev pub queued_at : ℕ → List Queued → ℕ
queued_at x q = total (λ e. one_if (x == e.unit)) q

-- how often unit x is generated, queued or made
abbrev pub in_hand : ℕ → State → ℕ
in_hand x s = times_some x s.gen + queued_at x s.queue + running_at x s.running

-- how many bytes pay jobs, are spare or are being given
abbrev pub bytes_in : State → ℕ
bytes_in s = payers s.running + one_some s.spare + length s.giving

-- how often byte x pays a job, is spare or is being given
abbrev pub byte_at : ℕ → State → ℕ
byte_at x s = paid_at x s.running + times_some x s.spare + times x s.giving

-- the unit of the first job on the implicit slot
abbrev pub own_of : List Job → Option ℕ
own_of js = option_map (λ j. j.unit) (find (λ j. is_none j.payer) js)

-- whether a job makes unit i
abbrev pub runs : ℕ → List Job → Bool
runs i js = list_any (λ j. j.unit == i) js

-- whether unit i is the one that is generated
abbrev pub is_gen : ℕ → Option ℕ → Bool
is_gen i None = false
is_gen i (Some g) = g == i

-- whether byte b is among these
abbrev pub has_byte : ℕ → List ℕ → Bool
has_byte b bytes = list_any (λ x. x == b) bytes

-- the byte that pays the job of unit i
abbrev pub payer_of : ℕ → List Job → Option ℕ
payer_of i [] = None
payer_of i (j ∷ js) = if j.unit == i then j.payer else payer_of i js

-- the jobs without that of unit i
abbrev pub jobs_without : ℕ → List Job → List Job
jobs_without i [] = []
jobs_without i (j ∷ js) = if j.unit == i then js else j ∷ jobs_without i js

-- the jobs, where b pays the first one on the implicit slot
abbrev pub paid_by : ℕ → List Job → List Job
paid_by b [] = []
paid_by b (j ∷ js) = if is_none j.payer then (record j { payer = Some b }) ∷ js else j ∷ paid_by b js

-- whether e starts before x: the greater cost first, and of equal costs the lesser unit
abbrev pub precedes : Queued → Queued → Bool
precedes e x = nat_lt x.cost e.cost || (e.cost == x.cost && nat_lt e.unit x.unit)

-- the queue with e in its place
abbrev pub placed : Queued → List Queued → List Queued
placed e [] = e ∷ []
placed e (x ∷ xs) = if precedes e x then e ∷ x ∷ xs else x ∷ placed e xs

-- whether nothing is queued
abbrev pub is_empty : List Queued → Bool
is_empty [] = true
is_empty (x ∷ xs) = false

-- the bytes without one b
abbrev pub bytes_without : ℕ → List ℕ → List ℕ
bytes_without b [] = []
bytes_without b (x ∷ xs) = if x == b then xs else x ∷ bytes_without b xs
