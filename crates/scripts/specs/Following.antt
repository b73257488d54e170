-- Calls that follow a script.
use Rattle.std.specs.Prelude.{◌≡◌, ◌⊎◌, Result, Ok, Err}
use Rattle.scripts.specs.Outside.{Outside, Came, Gave, Wanted, Fell, Step}
use Rattle.scripts.specs.Script.{Script, End, Stop, Call}

-- the reasons by which a script may end at many places: memory was wanted, a put failed
pub record Reasons (E : Type 0) : Type 0 where
  pub memory : E
  pub put_fault : E

-- memory was wanted before the next call
abbrev pub Breaks : {E A : Type 0} → Reasons E → Outside → Outside → Result A E → Type 0
Breaks reasons old new result = (result ≡ Err reasons.memory) × (new ≡ old)

-- after a call that came to this
abbrev pub Behind : {E A X : Type 0} → Reasons E → Came X → (X → Outside → Outside → Result A E → Type 0) → Outside → Outside → Result A E → Type 0
Behind reasons (Gave x) rest old new result = rest x old new result
Behind reasons Wanted rest old new result = (result ≡ Err reasons.memory) × (new ≡ old)
Behind reasons Fell rest old new result = (result ≡ Err reasons.put_fault) × (new ≡ old)

-- a call was made, and then the rest followed
pub record Goes {E A X : Type 0} (reasons : Reasons E) (step : Outside → Came X → Outside → Type 0) (rest : X → Outside → Outside → Result A E → Type 0) (old new : Outside) (result : Result A E) : Type 0 where
  pub came : Came X
  pub mid : Outside
  pub made : step old came mid
  pub then : Behind reasons came rest mid new result

-- The calls between two states are the script's, in order, each with its answer, and its end is the result. Or they are a prefix of the
-- script's: memory was wanted then, or the last is a put that failed.
unfoldable pub Follows : {E A : Type 0} → Reasons E → Script E A → Outside → Outside → Result A E → Type 0
Follows reasons (End a) old new result = Breaks reasons old new result ⊎ ((result ≡ Ok a) × (new ≡ old))
Follows reasons (Stop e) old new result = Breaks reasons old new result ⊎ ((result ≡ Err e) × (new ≡ old))
Follows reasons (Call a rest) old new result = Breaks reasons old new result ⊎ Goes reasons (Step a) (λ x. Follows reasons (rest x)) old new result
