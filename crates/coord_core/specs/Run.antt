-- A run: what is awaited, which lists of events are lawful, and what the list leaves and answers.
use Rattle.std.specs.Prelude.{◌≡◌, ◌==◌, Bool, true, false, not, ◌&&◌, ◌||◌, List, [], ◌∷◌, length, None, is_none}
use Rattle.coord_core.specs.declared.event.Event.{Event}
use Rattle.coord_core.specs.declared.event.Event.TheVariants.{Took, Empty, TakeFault, Generated, GenFailed, Made, MakeFailed, Wanted, Gave, GiveFault}
use Rattle.coord_core.specs.declared.event.Actions.{Actions}
use Rattle.coord_core.specs.declared.terms.Terms.{Terms}
use Rattle.coord_core.specs.State.{State, is_gen, runs, has_byte}
use Rattle.coord_core.specs.Effect.{effect}
use Rattle.coord_core.specs.Decide.{decided, may_ask, actions_of}

-- nothing was generated, and nothing is decided
abbrev pub first : Terms → State
first terms = record { terms = terms; next = 0; gen = None; queue = []; running = []; bar = terms.units; asks = true; asking = false; giving = []; spare = None }

-- the state in which the first event is awaited
abbrev pub opened : Terms → State
opened terms = decided true (first terms)

abbrev pub step : State → Event → State
step s e = decided (may_ask e) (effect e s)

abbrev pub run_from : State → List Event → State
run_from s [] = s
run_from s (e ∷ es) = run_from (step s e) es

abbrev pub run : Terms → List Event → State
run terms events = run_from (opened terms) events

-- the actions after each event
abbrev pub answers_from : State → List Event → List Actions
answers_from s [] = []
answers_from s (e ∷ es) = actions_of (may_ask e) (effect e s) ∷ answers_from (step s e) es

-- the actions at the start and after each event
abbrev pub answers : Terms → List Event → List Actions
answers terms events = actions_of true (first terms) ∷ answers_from (opened terms) events

-- the event answers an action that is out
abbrev pub is_awaited : State → Event → Bool
is_awaited s (Took b) = s.asking
is_awaited s Empty = s.asking
is_awaited s TakeFault = s.asking
is_awaited s (Generated i c) = is_gen i s.gen
is_awaited s (GenFailed i) = is_gen i s.gen
is_awaited s (Made i) = runs i s.running
is_awaited s (MakeFailed i) = runs i s.running
is_awaited s (Wanted i) = is_gen i s.gen || runs i s.running
is_awaited s (Gave b) = has_byte b s.giving
is_awaited s (GiveFault b) = has_byte b s.giving

-- each event answers an action that is out when it comes
abbrev pub LawfulFrom : State → List Event → Type 0
LawfulFrom s [] = Unit {0}
LawfulFrom s (e ∷ es) = (is_awaited s e ≡ true) × LawfulFrom (step s e) es

abbrev pub Lawful : Terms → List Event → Type 0
Lawful terms events = LawfulFrom (opened terms) events

-- no job, generation, ask or give is out
abbrev pub is_finished : State → Bool
is_finished s = length s.running == 0 && is_none s.gen && not s.asking && length s.giving == 0
