-- What an event does to the state, before anything is decided.
use Rattle.std.specs.Prelude.{ℕ, min, nat_lt, nat_le, Bool, true, false, List, Some, None, filter, if◌then◌else◌}
use Rattle.coord_core.specs.declared.event.Event.{Event}
use Rattle.coord_core.specs.declared.event.Event.TheVariants.{Took, Empty, TakeFault, Generated, GenFailed, Made, MakeFailed, Wanted, Gave, GiveFault}
use Rattle.coord_core.specs.declared.queue.Queued.{Queued}
use Rattle.coord_core.specs.State.{State, is_gen, payer_of, jobs_without, placed, bytes_without}

-- what is queued up to unit m
abbrev pub kept_to : ℕ → List Queued → List Queued
kept_to m q = filter (λ e. nat_le e.unit m) q

-- a failure leaves the bar and the queue as they are where the run keeps going after it; else the bar is at most i, and what is queued above the bar is dropped
abbrev pub bar_if : Bool → ℕ → ℕ → ℕ
bar_if true bar i = bar
bar_if false bar i = min bar i

abbrev pub kept_if : Bool → ℕ → List Queued → List Queued
kept_if true m q = q
kept_if false m q = kept_to m q

-- unit i failed
abbrev pub cut : Bool → ℕ → State → State
cut keep i s = record s { bar = bar_if keep s.bar i; queue = kept_if keep (min s.bar i) s.queue }

-- the job of unit i is over, and its byte is spare
abbrev pub ended : ℕ → State → State
ended i s = record s { running = jobs_without i s.running; spare = payer_of i s.running }

-- the generation is over
abbrev pub gen_ended : State → State
gen_ended s = record s { gen = None }

-- unit i was generated: it is queued below the bar, and dropped elsewhere
abbrev pub generated : ℕ → ℕ → State → State
generated i c s = record s { gen = None; queue = if nat_lt i s.bar then placed (record { cost = c; unit = i }) s.queue else s.queue }

-- unit i found no memory: its generation failed, or its job. No run keeps going after that
abbrev pub wanted : Bool → ℕ → State → State
wanted true i s = cut false i (gen_ended s)
wanted false i s = cut false i (ended i s)

abbrev pub effect : Event → State → State
effect (Took b) s = record s { asking = false; spare = Some b }
effect Empty s = record s { asking = false }
effect TakeFault s = record s { asking = false; asks = false }
effect (Generated i c) s = generated i c s
effect (GenFailed i) s = cut s.terms.keep i (gen_ended s)
effect (Made i) s = ended i s
effect (MakeFailed i) s = cut s.terms.keep i (ended i s)
effect (Wanted i) s = wanted (is_gen i s.gen) i s
effect (Gave b) s = record s { giving = bytes_without b s.giving }
effect (GiveFault b) s = record s { giving = bytes_without b s.giving }
