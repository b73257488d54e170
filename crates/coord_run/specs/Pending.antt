-- The actions that wait for the coordinator's own answer, and which of them is answered next. No promise, but for the code and its proof alone.
use Rattle.std.specs.Prelude.{◌≡◌, ◌||◌, Bool, true, false, [], ◌∷◌, Some, None, option_to_list}
use Rattle.coord_core.specs.declared.event.Event.{Event}
use Rattle.coord_core.specs.declared.event.Actions.{Actions}
use Rattle.coord_core.specs.State.{State}
use Rattle.coord_core.specs.Laws.{gen_by, gen_or, asking_by}
use Rattle.coord_run.specs.declared.pending.Pending.{Pending}
use Rattle.coord_run.specs.declared.pending.Turn.{Turn}
use Rattle.coord_run.specs.declared.pending.Turn.TheVariants.{Give, Ask, Generate, Collect}
use Rattle.coord_run.specs.Turns.{ask_first_by, AskTurn, GenerationTurn, JobTurn}

abbrev pub no_pending : Actions → Pending
no_pending a = record { give = a.give; generate = gen_or a.main None; ask = a.ask; ask_first = false }

abbrev pub pending_after : Event → Actions → Pending → Pending
pending_after e a p = record { give = a.give; generate = gen_or a.main (gen_by e p.generate); ask = asking_by e p.ask || a.ask; ask_first = ask_first_by a.main (asking_by e p.ask) p.ask_first }

-- they are those that the state waits for, with the order of an ask and a generation
pub record IsPending (s : State) (first : Bool) (p : Pending) : Type 0 where
  pub give : s.giving ≡ option_to_list p.give
  pub generate : s.gen ≡ p.generate
  pub ask : s.asking ≡ p.ask
  pub ask_first_is : first ≡ p.ask_first

-- this is answered next
abbrev pub IsNext : State → Bool → Turn → Type 0
IsNext s first (Give x) = s.giving ≡ x ∷ []
IsNext s first Ask = (s.asking ≡ true) × AskTurn s first
IsNext s first (Generate i) = (s.gen ≡ Some i) × GenerationTurn s first
IsNext s first Collect = JobTurn s
