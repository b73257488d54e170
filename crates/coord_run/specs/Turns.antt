-- The order in which a session answers what is out. A byte is given back at once. Of a generation and an ask the one that was decided first comes first, and where one answer decided both, the generation. A job's result is taken in where nothing else is out.
use Rattle.std.specs.Prelude.{◌≡◌, Bool, true, false, ◌&&◌, ◌||◌, List, [], ◌∷◌, None, is_none}
use Rattle.coord_core.specs.declared.event.Event.{Event}
use Rattle.coord_core.specs.declared.event.Event.TheVariants.{Took, Empty, TakeFault, Generated, GenFailed, Made, MakeFailed, Wanted, Gave, GiveFault}
use Rattle.coord_core.specs.declared.event.Main.{Main}
use Rattle.coord_core.specs.declared.event.Main.TheVariants.{Generate}
use Rattle.coord_core.specs.declared.terms.Terms.{Terms}
use Rattle.coord_core.specs.State.{State, is_gen}
use Rattle.coord_core.specs.Effect.{effect}
use Rattle.coord_core.specs.Decide.{may_ask, actions_of}
use Rattle.coord_core.specs.Run.{opened, step}

-- whether an ask is out that was decided before the generation that is out. Of the arguments the last tells whether it was so before the event, and the one before whether the event leaves an ask out
abbrev pub ask_first_by : Main → Bool → Bool → Bool
ask_first_by (Generate i) asking first = asking
ask_first_by _ asking first = first && asking

abbrev pub ask_first_after : State → Event → Bool → Bool
ask_first_after s e first = ask_first_by (actions_of (may_ask e) (effect e s)).main (effect e s).asking first

abbrev pub ask_first_from : State → Bool → List Event → Bool
ask_first_from s first [] = first
ask_first_from s first (e ∷ es) = ask_first_from (step s e) (ask_first_after s e first) es

abbrev pub ask_first : Terms → List Event → Bool
ask_first terms events = ask_first_from (opened terms) false events

-- when an ask is answered, when a generation ends, and when a job's result is taken in
abbrev pub AskTurn : State → Bool → Type 0
AskTurn s first = (s.giving ≡ []) × ((is_none s.gen || first) ≡ true)

abbrev pub GenerationTurn : State → Bool → Type 0
GenerationTurn s first = (s.giving ≡ []) × ((s.asking && first) ≡ false)

abbrev pub JobTurn : State → Type 0
JobTurn s = (s.giving ≡ []) × (s.gen ≡ None) × (s.asking ≡ false)

-- a unit that found no memory, when it was generated or when it was made
abbrev pub WantedTurn : Bool → State → Bool → Type 0
WantedTurn true s first = GenerationTurn s first
WantedTurn false s first = JobTurn s

abbrev pub IsTurn : Event → State → Bool → Type 0
IsTurn (Took b) s first = AskTurn s first
IsTurn Empty s first = AskTurn s first
IsTurn TakeFault s first = AskTurn s first
IsTurn (Generated i c) s first = GenerationTurn s first
IsTurn (GenFailed i) s first = GenerationTurn s first
IsTurn (Made i) s first = JobTurn s
IsTurn (MakeFailed i) s first = JobTurn s
IsTurn (Wanted i) s first = WantedTurn (is_gen i s.gen) s first
IsTurn (Gave b) s first = Unit {0}
IsTurn (GiveFault b) s first = Unit {0}

-- each event comes in its turn
abbrev pub AreTurns : State → Bool → List Event → Type 0
AreTurns s first [] = Unit {0}
AreTurns s first (e ∷ es) = IsTurn e s first × AreTurns (step s e) (ask_first_after s e first) es

abbrev pub InTurn : Terms → List Event → Type 0
InTurn terms events = AreTurns (opened terms) false events
