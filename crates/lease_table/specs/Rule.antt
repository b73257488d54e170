-- The rule of the lease word, which holds between any two steps.
use Rattle.std.specs.Prelude.{◌≡◌, ℕ, ◌+◌, ◌≤◌, true, List, length, slice_index, IsSome}
use mathlib.Core.Option.{some}
use lib.ListN.{get_elem?}
use Rattle.counting.specs.Count.{times, total}
use Rattle.atomic_table.specs.Table.{State}
use Rattle.lease_table.specs.declared.view.DeskView.{DeskView}
use Rattle.lease_table.specs.declared.view.View.{View}
use Rattle.lease_table.specs.declared.view.View.TheVariants.{OfDesk, OfLease, Spent}
use Rattle.lease_table.specs.Reading.{word_of, IsBegunIfAny, AllBegun}
use Rattle.lease_table.specs.Jobs.{IsOut, IsNotOut}
use Rattle.lease_table.specs.View.{share_of, busy_of, job_of}

-- the desk's view has these numbers and this list; a job that is named is not out; each word that it saw, and the one that came back last, is one that a begin step left
pub record FitsDesk (held top peak : ℕ) (out : List ℕ) (d : DeskView) : Type 0 where
  pub held_is : d.held ≡ held
  pub top_is : d.top ≡ top
  pub peak_is : d.peak ≡ peak
  pub out_is : d.out ≡ out
  pub named : IsNotOut d.named d.out
  pub seen : AllBegun top d.seen
  pub back : IsOut d.back d.before
  pub word : IsBegunIfAny d.bound d.word

-- the seat of number 0 alone is the desk's; a busy lease, and one that has begun before, keeps the word that its last begin step left
abbrev pub Fits : ℕ → ℕ → ℕ → List ℕ → ℕ → View → Type 0
Fits held top peak out seat (OfDesk d) = (seat ≡ 0) × FitsDesk held top peak out d
Fits held top peak out seat (OfLease l) = IsBegunIfAny peak l.word × (l.busy ≡ true → IsSome l.word)
Fits held top peak out seat Spent = Unit {0}

-- The shares of all views are one more than the held tokens, and the busy views are as many as run.
-- The peak is the greatest number held since all shares were last at the desk, and so in the word of each lease no more are held.
-- A job is in the desk's list exactly where it is the job of a view, and no two views have one job.
pub record Holds (held running top peak : ℕ) (out : List ℕ) (words : List ℕ) (views : List View) : Type 0 where
  pub wide : length words ≡ 2
  pub word : slice_index words 0 ≡ word_of held running
  pub shares : total share_of views ≡ held + 1
  pub busies : total busy_of views ≡ running
  pub most : held ≤ 63
  pub high : held ≤ peak
  pub highest : peak ≤ top
  pub jobs : (x : ℕ) → times x out ≡ total (job_of x) views
  pub once : (x : ℕ) → times x out ≤ 1
  pub fits : (seat : ℕ) (v : View) → get_elem? views seat ≡ some v → Fits held top peak out seat v

abbrev pub Ruled : State (Unit {0}) View → Type 0
Ruled s = (held : ℕ) × (running : ℕ) × (top : ℕ) × (peak : ℕ) × (out : List ℕ) × Holds held running top peak out s.words s.views
