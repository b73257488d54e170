-- What is decided after an event: five decisions in order, the state that they leave and the actions that they answer.
use Rattle.std.specs.Prelude.{ℕ, ◌+◌, ◌-◌, ◌*◌, ◌/◌, ◌==◌, nat_lt, nat_le, Bool, true, false, not, ◌&&◌, ◌||◌, List, [], ◌∷◌, ◌++◌, length, Option, Some, None, is_none}
use Rattle.coord_core.specs.declared.event.Event.{Event}
use Rattle.coord_core.specs.declared.event.Event.TheVariants.{Took, Empty, TakeFault, Generated, GenFailed, Made, MakeFailed, Wanted, Gave, GiveFault}
use Rattle.coord_core.specs.declared.event.Main.{Main}
use Rattle.coord_core.specs.declared.event.Main.TheVariants.{Idle, Generate, Lend}
use Rattle.coord_core.specs.declared.event.Actions.{Actions}
use Rattle.coord_core.specs.declared.queue.Queued.{Queued}
use Rattle.coord_core.specs.State.{State, payers, own_of, paid_by, is_empty}

-- units are left to generate, and no failure lowered the bar
abbrev pub may_generate : State → Bool
may_generate s = nat_lt s.next s.terms.units && s.bar == s.terms.units

-- there is work for one more job: a queued unit, or one to generate
abbrev pub more_to_do : State → Bool
more_to_do s = not (is_empty s.queue) || may_generate s

-- q queued units are enough for w running jobs, so that none need be generated now: one at least, and a quarter of the jobs
abbrev pub full_enough : ℕ → ℕ → Bool
full_enough q w = nat_lt 0 q && nat_le (w - 3 * w / 4) q

-- the implicit slot: neither a generation nor a job is on it
abbrev pub is_free : State → Bool
is_free s = is_none s.gen && is_none (own_of s.running)

-- pass: a spare byte pays the job on the implicit slot, where that frees the slot for more work
abbrev pub passed : State → Option ℕ → Option ℕ → Bool → State
passed s (Some b) (Some i) true = record s { running = paid_by b s.running; spare = None }
passed s (Some b) (Some i) false = s
passed s (Some b) None w = s
passed s None o w = s

abbrev pub pass : State → State
pass s = passed s s.spare (own_of s.running) (more_to_do s)

abbrev pub pass_by : Option ℕ → Option ℕ → Bool → Option (ℕ × ℕ)
pass_by (Some b) (Some i) true = Some (b, i)
pass_by (Some b) (Some i) false = None
pass_by (Some b) None w = None
pass_by None o w = None

-- start: a byte that is still spare pays the head of the queue
abbrev pub started : State → Option ℕ → List Queued → State
started s (Some b) (e ∷ es) = record s { queue = es; running = s.running ++ record { unit = e.unit; payer = Some b } ∷ []; spare = None }
started s (Some b) [] = s
started s None q = s

abbrev pub start : State → State
start s = started s s.spare s.queue

abbrev pub start_by : Option ℕ → List Queued → Option (ℕ × ℕ)
start_by (Some b) (e ∷ es) = Some (b, e.unit)
start_by (Some b) [] = None
start_by None q = None

-- give: a byte that is still spare is given back
abbrev pub gives : State → Option ℕ → State
gives s (Some b) = record s { giving = s.giving ++ b ∷ []; spare = None }
gives s None = s

abbrev pub give : State → State
give s = gives s s.spare

-- main: on the free slot the next unit is generated while too little is queued, or else the head of the queue runs
abbrev pub lends : State → List Queued → State
lends s (e ∷ es) = record s { queue = es; running = s.running ++ record { unit = e.unit; payer = None } ∷ [] }
lends s [] = s

abbrev pub main_by : State → Bool → Bool → State
main_by s false g = s
main_by s true true = record s { gen = Some s.next; next = s.next + 1 }
main_by s true false = lends s s.queue

-- whether a unit is to be generated before a queued one runs
abbrev pub is_to_generate : State → Bool
is_to_generate s = may_generate s && not (full_enough (length s.queue) (length s.running))

abbrev pub main : State → State
main s = main_by s (is_free s) (is_to_generate s)

abbrev pub lend_by : List Queued → Main
lend_by (e ∷ es) = Lend e.unit
lend_by [] = Idle

abbrev pub main_act : State → Bool → Bool → Main
main_act s false g = Idle
main_act s true true = Generate s.next
main_act s true false = lend_by s.queue

-- ask: events after which a token may be asked for
abbrev pub may_ask : Event → Bool
may_ask (Took b) = true
may_ask Empty = false
may_ask TakeFault = false
may_ask (Generated i c) = true
may_ask (GenFailed i) = true
may_ask (Made i) = true
may_ask (MakeFailed i) = true
may_ask (Wanted i) = true
may_ask (Gave b) = false
may_ask (GiveFault b) = false

-- a token would have work: a queued unit, or one to generate if it freed the slot
abbrev pub token_has_work : State → Bool
token_has_work s = not (is_empty s.queue) || (not (is_none (own_of s.running)) && may_generate s)

-- a lane is free that a token could pay for, and there is work for it
abbrev pub asks_now : State → Bool
asks_now s = s.asks && not s.asking && nat_lt (payers s.running + 1) s.terms.lanes && token_has_work s

abbrev pub asked : State → Bool → State
asked s true = record s { asking = true }
asked s false = s

abbrev pub ask : Bool → State → State
ask may s = asked s (may && asks_now s)

-- the state before main, and after all five
abbrev pub settled : State → State
settled s = give (start (pass s))

abbrev pub decided : Bool → State → State
decided may s = ask may (main (settled s))

abbrev pub actions_of : Bool → State → Actions
actions_of may s = record {
  pass = pass_by s.spare (own_of s.running) (more_to_do s);
  start = start_by (pass s).spare (pass s).queue;
  give = (start (pass s)).spare;
  main = main_act (settled s) (is_free (settled s)) (is_to_generate (settled s));
  ask = may && asks_now (main (settled s));
}
