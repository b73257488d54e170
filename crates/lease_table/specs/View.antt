-- What a seat's view counts for, the peak of a desk's, and the view that a desk begins with.
use Rattle.std.specs.Prelude.{ℕ, ◌+◌, ◌==◌, cond, [], None}
use Rattle.counting.specs.Count.{one_if}
use Rattle.lease_table.specs.declared.view.View.{View}
use Rattle.lease_table.specs.declared.view.View.TheVariants.{OfDesk, OfLease, Spent}
use Rattle.lease_table.specs.Jobs.{times_job}

-- the shares of a view: as many as the desk has, one of a lease, none once it is spent
abbrev pub share_of : View → ℕ
share_of (OfDesk d) = d.share
share_of (OfLease l) = 1
share_of Spent = 0

-- 1 for a busy view; the desk and what is spent are idle
abbrev pub busy_of : View → ℕ
busy_of (OfDesk d) = 0
busy_of (OfLease l) = one_if l.busy
busy_of Spent = 0

-- 1 for a view with the job x; the desk and what is spent have none
abbrev pub job_of : ℕ → View → ℕ
job_of x (OfDesk d) = 0
job_of x (OfLease l) = times_job x l.job
job_of x Spent = 0

-- The peak of a desk with this share and this number held, where it was `before` until now: once all shares are at the desk it begins anew with what is held.
abbrev pub peak_at : ℕ → ℕ → ℕ → ℕ
peak_at share held before = cond (share == held + 1) held before

-- a desk at the start: one share, nothing held, no job named or out, no word seen
abbrev pub opened : View
opened = OfDesk (record { share = 1; held = 0; top = 0; peak = 0; named = None; out = []; seen = []; back = None; before = []; word = None; bound = 0 })
