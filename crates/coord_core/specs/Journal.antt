-- What a list of events and a list of answers tell.
use Rattle.std.specs.Prelude.{ℕ, min, zero, suc, Bool, true, false, List, [], ◌∷◌, ◌++◌, Option, Some, None}
use Rattle.coord_core.specs.declared.event.Event.{Event}
use Rattle.coord_core.specs.declared.event.Event.TheVariants.{Took, Empty, TakeFault, Generated, GenFailed, Made, MakeFailed, Wanted, Gave, GiveFault}
use Rattle.coord_core.specs.declared.event.Main.{Main}
use Rattle.coord_core.specs.declared.event.Main.TheVariants.{Generate, Lend}
use Rattle.coord_core.specs.declared.event.Actions.{Actions}

-- what each member tells, joined in order
abbrev pub gather : {A : Type 0} → (A → List ℕ) → List A → List ℕ
gather tells [] = []
gather tells (x ∷ xs) = tells x ++ gather tells xs

-- the byte that was taken
abbrev pub took_by : Event → List ℕ
took_by (Took b) = b ∷ []
took_by _ = []

-- the byte that was given back
abbrev pub gave_by : Event → List ℕ
gave_by (Gave b) = b ∷ []
gave_by _ = []

-- the byte that was lost: it could not be given back
abbrev pub lost_by : Event → List ℕ
lost_by (GiveFault b) = b ∷ []
lost_by _ = []

-- the unit that was made
abbrev pub made_by : Event → List ℕ
made_by (Made i) = i ∷ []
made_by _ = []

-- the unit that failed, or found no memory
abbrev pub failed_by : Event → List ℕ
failed_by (GenFailed i) = i ∷ []
failed_by (MakeFailed i) = i ∷ []
failed_by (Wanted i) = i ∷ []
failed_by _ = []

-- the unit that found no memory
abbrev pub wanted_by : Event → List ℕ
wanted_by (Wanted i) = i ∷ []
wanted_by _ = []

-- the unit whose failure lowers the bar: any that failed, and of a run that keeps going only one that found no memory
abbrev pub lowered_by : Bool → Event → List ℕ
lowered_by true e = wanted_by e
lowered_by false e = failed_by e

-- the unit that was refused, when it was generated or when it was made
abbrev pub refused_by : Event → List ℕ
refused_by (GenFailed i) = i ∷ []
refused_by (MakeFailed i) = i ∷ []
refused_by _ = []

-- the unit that needs no more: one that was made, and of a run that keeps going also one that was refused
abbrev pub covered_by : Bool → Event → List ℕ
covered_by true e = made_by e ++ refused_by e
covered_by false e = made_by e

-- 1 for an event of a unit: what came of its generation or its job
abbrev pub of_unit : Event → ℕ
of_unit (Generated i c) = 1
of_unit (GenFailed i) = 1
of_unit (Made i) = 1
of_unit (MakeFailed i) = 1
of_unit (Wanted i) = 1
of_unit _ = 0

-- 1 for an answer to an ask
abbrev pub of_ask : Event → ℕ
of_ask (Took b) = 1
of_ask Empty = 1
of_ask TakeFault = 1
of_ask _ = 0

-- 1 for an answer to a give
abbrev pub of_give : Event → ℕ
of_give (Gave b) = 1
of_give (GiveFault b) = 1
of_give _ = 0

-- the unit whose generation is begun
abbrev pub begun_by : Main → List ℕ
begun_by (Generate i) = i ∷ []
begun_by _ = []

-- the unit that the slot is lent to
abbrev pub lent_by : Main → List ℕ
lent_by (Lend i) = i ∷ []
lent_by _ = []

-- the unit of a byte's job
abbrev pub unit_by : Option (ℕ × ℕ) → List ℕ
unit_by (Some p) = p.1 ∷ []
unit_by None = []

-- the jobs that are started
abbrev pub jobs_by : Actions → List ℕ
jobs_by a = unit_by a.start ++ lent_by a.main

abbrev pub took : List Event → List ℕ
took events = gather took_by events

abbrev pub gave : List Event → List ℕ
gave events = gather gave_by events

abbrev pub lost : List Event → List ℕ
lost events = gather lost_by events

abbrev pub made : List Event → List ℕ
made events = gather made_by events

abbrev pub failed : List Event → List ℕ
failed events = gather failed_by events

abbrev pub wanted : List Event → List ℕ
wanted events = gather wanted_by events

abbrev pub lowered : Bool → List Event → List ℕ
lowered keep events = gather (lowered_by keep) events

abbrev pub covered : Bool → List Event → List ℕ
covered keep events = gather (covered_by keep) events

-- the units whose generation was begun, in order
abbrev pub begun : List Actions → List ℕ
begun actions = gather (λ a. begun_by a.main) actions

-- the jobs that were started, in order
abbrev pub jobs : List Actions → List ℕ
jobs actions = gather jobs_by actions

-- 0, 1 and on, up to but not including n
abbrev pub up_to : ℕ → List ℕ
up_to zero = []
up_to (suc n) = up_to n ++ n ∷ []

abbrev pub lesser : ℕ → Option ℕ → ℕ
lesser x None = x
lesser x (Some y) = min x y

-- the least of o and these
abbrev pub lesser_by : List ℕ → Option ℕ → Option ℕ
lesser_by [] o = o
lesser_by (x ∷ xs) o = Some (lesser x (lesser_by xs o))

-- the least of these
abbrev pub least : List ℕ → Option ℕ
least [] = None
least (x ∷ xs) = Some (lesser x (least xs))
