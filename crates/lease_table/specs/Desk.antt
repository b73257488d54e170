-- What contracts see of a desk, and how each call changes it.
use Rattle.std.specs.Prelude.{◌≡◌, ℕ, ◌+◌, ◌-◌, ◌≤◌, max, List, [], Option, None}
use Rattle.atomic_table.specs.Seated.{TableId}
use Rattle.atomic_table.specs.Table.{Me}
use Rattle.lease_table.specs.declared.reading.Reading.{Reading}
use Rattle.lease_table.specs.declared.view.DeskView.{DeskView}
use Rattle.lease_table.specs.declared.view.View.{View}
use Rattle.lease_table.specs.declared.view.View.TheVariants.{OfDesk, OfLease, Spent}
use Rattle.lease_table.specs.Reading.{seen_with}
use Rattle.lease_table.specs.View.{peak_at}
use Rattle.lease_table.specs.Jobs.{out_with, out_without}
use Rattle.lease_table.specs.Lease.{LeaseState}

-- held: tokens held. share: shares at the desk. top: the greatest number that was ever held. peak: the greatest that was held since all shares were last at the desk. out: jobs that are out.
-- seen: for each lease that came back and had begun, in order, its job and the word that its last begin step left.
pub record DeskState : Type 0 where
  pub table : TableId
  pub held : ℕ
  pub share : ℕ
  pub top : ℕ
  pub peak : ℕ
  pub out : List ℕ
  pub seen : List (Option ℕ × Reading)

-- a new desk
pub record IsFresh (d : DeskState) : Type 0 where
  pub held : d.held ≡ 0
  pub share : d.share ≡ 1
  pub top : d.top ≡ 0
  pub peak : d.peak ≡ 0
  pub out : d.out ≡ []
  pub seen : d.seen ≡ []

-- a desk that has all shares: no job is out, and no more were held since than are now
pub record IsAtRest (d : DeskState) : Type 0 where
  pub out : d.out ≡ []
  pub peak : d.peak ≡ d.held

abbrev pub after_took : DeskState → DeskState
after_took d = record d { held = d.held + 1; share = d.share + 1; top = max d.top (d.held + 1); peak = max d.peak (d.held + 1) }

abbrev pub after_gave : DeskState → DeskState
after_gave d = record d { held = d.held - 1; share = d.share - 1; peak = peak_at (d.share - 1) (d.held - 1) d.peak }

-- a lease for this job, or for none, is lent
abbrev pub after_lend : Option ℕ → DeskState → DeskState
after_lend job d = record d { share = d.share - 1; out = out_with d.out job }

abbrev pub after_spend : LeaseState → DeskState → DeskState
after_spend l d = record d { share = d.share + 1; peak = peak_at (d.share + 1) d.held d.peak; out = out_without d.out l.job; seen = seen_with d.seen l.job l.last }

-- the desk's view, where a view is that
abbrev pub desk_of : View → DeskView
desk_of (OfDesk d) = d
desk_of (OfLease l) = record { share = 0; held = 0; top = 0; peak = 0; named = None; out = []; seen = []; back = None; before = []; word = None; bound = 0 }
desk_of Spent = record { share = 0; held = 0; top = 0; peak = 0; named = None; out = []; seen = []; back = None; before = []; word = None; bound = 0 }

abbrev pub state_of : TableId → DeskView → DeskState
state_of table d = record { table = table; held = d.held; share = d.share; top = d.top; peak = d.peak; out = d.out; seen = d.seen }

-- the seat is the desk's at this table, with these numbers held and at the desk, no job named, and a handle for each lease that can be lent, with room for all 64
pub record IsDesk (table at : TableId) (me : Me (Unit {0}) View) (held share handles room : ℕ) : Type 0 where
  pub same : at ≡ table
  pub wide : table.words ≡ 2
  pub desk : me ≡ (OfDesk (desk_of me.0), [])
  pub held_is : (desk_of me.0).held ≡ held
  pub share_is : (desk_of me.0).share ≡ share
  pub named : (desk_of me.0).named ≡ None
  pub most : held ≤ 63
  pub part : share ≤ held + 1
  pub high : held ≤ (desk_of me.0).peak
  pub rest : share ≡ held + 1 → IsAtRest (state_of table (desk_of me.0))
  pub handles_are : handles + held ≡ 63 + share
  pub room_is : 64 ≤ room
