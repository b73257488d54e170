-- What is known, and lists without a fault.
use Rattle.std.specs.Prelude.{List, [], ◌∷◌, Option, Some, None}
use Rattle.lar_rules.specs.Fault.{Fault}

-- there is a value
abbrev pub IsKnown : {A : Type 0} → Option A → Type 0
IsKnown None = ⊥
IsKnown (Some x) = Unit {0}

-- there is no fault
abbrev pub IsFaultless : List Fault → Type 0
IsFaultless [] = Unit {0}
IsFaultless (f ∷ fs) = ⊥

-- where there is no fault there is a value
abbrev pub IsTold : {A : Type 0} → Option A → List Fault → Type 0
IsTold o fs = IsFaultless fs → IsKnown o
