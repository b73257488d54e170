-- The rule of a pool in memory, which holds between any two steps: its free bytes and what its passes owe are the bytes that it was made with.
use Rattle.std.specs.Prelude.{◌≡◌, ℕ, ◌+◌, List, length}
use mathlib.Core.Option.{some}
use lib.ListN.{get_elem?}
use Rattle.counting.specs.Count.{times, total}
use Rattle.token_pool.specs.declared.view.View.{View}
use Rattle.token_pool.specs.declared.view.View.TheVariants.{OfPool, OfPass, Spent}
use Rattle.token_pool.specs.View.{pass_of, owed_of, owes_of}

-- the first view alone is the pool's own, which counts the passes that are out; each view that is not spent knows the bytes that the pool was made with
abbrev pub Fits : List ℕ → ℕ → ℕ → View → Type 0
Fits bytes passes seat (OfPool hand out) = (seat ≡ 0) × (hand.bytes ≡ bytes) × (out ≡ passes)
Fits bytes passes seat (OfPass hand) = hand.bytes ≡ bytes
Fits bytes passes seat Spent = Unit {0}

-- each byte is free or owed as often as the pool was made with it
pub record Holds (bytes : List ℕ) (passes : ℕ) (free : List ℕ) (views : List View) : Type 0 where
  pub each : (x : ℕ) → times x bytes ≡ times x free + total (owed_of x) views
  pub all : length bytes ≡ length free + total owes_of views
  pub out : total pass_of views ≡ passes
  pub fits : (seat : ℕ) (v : View) → get_elem? views seat ≡ some v → Fits bytes passes seat v

abbrev pub Ruled : List ℕ → List View → Type 0
Ruled free views = (bytes : List ℕ) × (passes : ℕ) × Holds bytes passes free views
