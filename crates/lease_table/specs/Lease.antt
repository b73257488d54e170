-- What contracts see of a lease and of a busy lease.
use Rattle.std.specs.Prelude.{◌≡◌, ℕ, Bool, true, false, [], Option, None, Some}
use Rattle.atomic_table.specs.Seated.{TableId}
use Rattle.atomic_table.specs.Table.{Me}
use Rattle.lease_table.specs.declared.reading.Reading.{Reading}
use Rattle.lease_table.specs.declared.view.LeaseView.{LeaseView}
use Rattle.lease_table.specs.declared.view.View.{View}
use Rattle.lease_table.specs.declared.view.View.TheVariants.{OfDesk, OfLease, Spent}

-- last: the word that its last begin step left, if it has begun
pub record LeaseState : Type 0 where
  pub table : TableId
  pub job : Option ℕ
  pub last : Option Reading

-- word: the word that its begin step left. alone: made by `alone`
pub record BusyState : Type 0 where
  pub table : TableId
  pub job : Option ℕ
  pub word : Reading
  pub alone : Bool

-- A busy lease is left as it was: made by `alone` exactly where it was so before, of the same table, with the same job and the same kept word.
-- A call that is passed a `&mut Busy` says this of it at every answer.
abbrev pub IsSameBusy : BusyState → BusyState → Type 0
IsSameBusy before after = after ≡ before

-- the lease's view, where a view is that
abbrev pub lease_of : View → LeaseView
lease_of (OfDesk d) = record { job = None; busy = false; word = None }
lease_of (OfLease l) = l
lease_of Spent = record { job = None; busy = false; word = None }

-- the word, where there is one
abbrev pub word_or : Option Reading → Reading
word_or (Some r) = r
word_or None = record { held = 0; running = 0 }

abbrev pub lease_state : TableId → LeaseView → LeaseState
lease_state table l = record { table = table; job = l.job; last = l.word }

abbrev pub busy_state : TableId → LeaseView → Bool → BusyState
busy_state table l alone = record { table = table; job = l.job; word = word_or l.word; alone = alone }

-- the seat is a lease's at this table, with this job, busy or idle; a busy one keeps a word
pub record IsLease (table at : TableId) (me : Me (Unit {0}) View) (job : Option ℕ) (busy : Bool) : Type 0 where
  pub same : at ≡ table
  pub wide : table.words ≡ 2
  pub lease : me ≡ (OfLease (lease_of me.0), [])
  pub job_is : (lease_of me.0).job ≡ job
  pub busy_is : (lease_of me.0).busy ≡ busy
  pub begun : busy ≡ true → (lease_of me.0).word ≡ Some (word_or (lease_of me.0).word)
