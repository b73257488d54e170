-- The lease word, which has the number of held tokens above its low 32 bits and the number of running jobs in them, and the words that begin steps left.
use Rattle.std.specs.Prelude.{ℕ, ◌+◌, ◌*◌, ◌≤◌, List, [], ◌∷◌, ◌++◌, Option, Some, None}
use Rattle.lease_table.specs.declared.reading.Reading.{Reading}

abbrev pub reading : ℕ → ℕ → Reading
reading held running = record { held = held; running = running }

-- the word that has these two numbers
abbrev pub word_of : ℕ → ℕ → ℕ
word_of held running = held * 4294967296 + running

-- a word as a begin step left it, where no more than top tokens were ever held: somebody runs, and at most one more than are held
pub record IsBegun (top : ℕ) (r : Reading) : Type 0 where
  pub least : 1 ≤ r.running
  pub bound : r.running ≤ r.held + 1
  pub most : r.held ≤ top

-- the same of a word that may be missing
abbrev pub IsBegunIfAny : ℕ → Option Reading → Type 0
IsBegunIfAny top (Some r) = IsBegun top r
IsBegunIfAny top None = Unit {0}

-- the same of each word in a list of jobs and words
abbrev pub AllBegun : ℕ → List (Option ℕ × Reading) → Type 0
AllBegun top [] = Unit {0}
AllBegun top (entry ∷ entries) = IsBegun top entry.1 × AllBegun top entries

-- a list of jobs and words, and at its end the job and the word of a lease that comes back, if it has begun
abbrev pub seen_with : List (Option ℕ × Reading) → Option ℕ → Option Reading → List (Option ℕ × Reading)
seen_with seen job (Some r) = seen ++ (job, r) ∷ []
seen_with seen job None = seen
