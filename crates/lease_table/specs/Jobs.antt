-- The jobs that are out: numbers in a list, each at most once.
use Rattle.std.specs.Prelude.{◌≡◌, ℕ, ◌==◌, List, [], ◌∷◌, ◌++◌, Option, Some, None}
use Rattle.counting.specs.Count.{one_if, times, without}

-- how often x is the job, if there is one
abbrev pub times_job : ℕ → Option ℕ → ℕ
times_job x (Some y) = one_if (x == y)
times_job x None = 0

-- the job, if there is one, is not in the list
abbrev pub IsNotOut : Option ℕ → List ℕ → Type 0
IsNotOut (Some x) out = times x out ≡ 0
IsNotOut None out = Unit {0}

-- the job, if there is one, is in the list, once
abbrev pub IsOut : Option ℕ → List ℕ → Type 0
IsOut (Some x) out = times x out ≡ 1
IsOut None out = Unit {0}

-- the list with the job, if there is one
abbrev pub out_with : List ℕ → Option ℕ → List ℕ
out_with out (Some x) = out ++ x ∷ []
out_with out None = out

-- the list without the job, if there is one
abbrev pub out_without : List ℕ → Option ℕ → List ℕ
out_without out (Some x) = without x out
out_without out None = out
