-- The kinds of step: which views each changes and how, and what it tells.
use Rattle.std.specs.Prelude.{◌≡◌, ℕ, ◌+◌, ◌-◌, ◌≤◌, max, true, false, [], Some, None}
use Rattle.atomic_table.specs.Table.{Me, Step}
use Rattle.lease_table.specs.declared.reading.Reading.{Reading}
use Rattle.lease_table.specs.declared.view.DeskView.{DeskView}
use Rattle.lease_table.specs.declared.view.LeaseView.{LeaseView}
use Rattle.lease_table.specs.declared.view.View.{View}
use Rattle.lease_table.specs.declared.view.View.TheVariants.{OfDesk, OfLease, Spent}
use Rattle.lease_table.specs.Reading.{reading, word_of, IsBegunIfAny, AllBegun, seen_with}
use Rattle.lease_table.specs.View.{peak_at}
use Rattle.lease_table.specs.Jobs.{IsOut, out_with, out_without}

-- a change of the desk's view; any other stays
abbrev pub on_desk : (DeskView → DeskView) → View → View
on_desk f (OfDesk d) = OfDesk (f d)
on_desk f (OfLease l) = OfLease l
on_desk f Spent = Spent

-- a change of a lease's view; any other stays
abbrev pub on_lease : (LeaseView → LeaseView) → View → View
on_lease f (OfDesk d) = OfDesk d
on_lease f (OfLease l) = OfLease (f l)
on_lease f Spent = Spent

-- the desk, one token more held
abbrev pub desk_took : DeskView → DeskView
desk_took d = record d { share = d.share + 1; held = d.held + 1; top = max d.top (d.held + 1); peak = max d.peak (d.held + 1) }

-- the desk, one token fewer held
abbrev pub desk_gave : DeskView → DeskView
desk_gave d = record d { share = d.share - 1; held = d.held - 1; peak = peak_at (d.share - 1) (d.held - 1) d.peak }

-- the desk that has named the job of its next lease
abbrev pub desk_named : ℕ → DeskView → DeskView
desk_named job d = record d { named = Some job }

-- the desk after a lend: the named job is out, and none is named
abbrev pub desk_lent : DeskView → DeskView
desk_lent d = record d { share = d.share - 1; named = None; out = out_with d.out d.named }

-- the new lease, which has the named job
abbrev pub lease_lent : DeskView → LeaseView
lease_lent d = record { job = d.named; busy = false; word = None }

-- a lease that begins, and keeps this word
abbrev pub lease_begun : Reading → LeaseView → LeaseView
lease_begun r l = record l { busy = true; word = Some r }

-- a lease that ends, and still keeps its word
abbrev pub lease_ended : LeaseView → LeaseView
lease_ended l = record l { busy = false }

-- the desk that takes a lease back
abbrev pub desk_spent : DeskView → LeaseView → DeskView
desk_spent d l = record d {
  share = d.share + 1;
  peak = peak_at (d.share + 1) d.held d.peak;
  out = out_without d.out l.job;
  seen = seen_with d.seen l.job l.word;
  back = l.job;
  before = d.out;
  word = l.word;
  bound = d.peak;
}

-- both seats of a lend, and the seats of a spend
abbrev pub desk_side : View → View
desk_side = on_desk desk_lent

abbrev pub lease_side : View → View
lease_side (OfDesk d) = OfLease (lease_lent d)
lease_side (OfLease l) = Spent
lease_side Spent = Spent

abbrev pub both_sides : View → View → View
both_sides (OfDesk d) (OfLease l) = OfDesk (desk_spent d l)
both_sides (OfDesk d) (OfDesk e) = OfDesk d
both_sides (OfDesk d) Spent = OfDesk d
both_sides (OfLease l) v = OfLease l
both_sides Spent v = Spent

-- a seat: its view, and the slots that it holds, of which this table has none
abbrev Seated : Type 0
Seated = Me (Unit {0}) View

abbrev pub Took : Step (Unit {0}) → Seated → ℕ → Seated → Type 0
Took st me found me' = me' ≡ (on_desk desk_took me.0, me.1)

abbrev pub Gave : Step (Unit {0}) → Seated → ℕ → Seated → Type 0
Gave st me found me' = me' ≡ (on_desk desk_gave me.0, me.1)

abbrev pub Named : Step (Unit {0}) → Seated → ℕ → Seated → Type 0
Named st me found me' = me' ≡ (on_desk (desk_named st.first) me.0, me.1)

-- the word that was found had room for one more; the lease keeps the word with that one
abbrev pub Began : Step (Unit {0}) → Seated → ℕ → Seated → Type 0
Began st me found me' =
    (held : ℕ) × (running : ℕ) × (found ≡ word_of held running) × (running ≤ held) × (held ≤ 63) × (me' ≡ (on_lease (lease_begun (reading held (running + 1))) me.0, me.1))

-- the one share of a table on which nothing was done yet, as a busy lease for no job
abbrev pub alone_lease : LeaseView
alone_lease = record { job = None; busy = true; word = Some (reading 0 1) }

abbrev pub Stood : Step (Unit {0}) → Seated → ℕ → Seated → Type 0
Stood st me found me' = me' ≡ (OfLease alone_lease, me.1)

abbrev pub Ended : Step (Unit {0}) → Seated → ℕ → Seated → Type 0
Ended st me found me' = me' ≡ (on_lease lease_ended me.0, me.1)

-- what a look at the word tells a desk: the job that came back last was out, the word that came back last and each word that was seen is one that a begin step left, the desk's share is no more than there is, and where it is all that there is no job is out
pub record Shown (d : DeskView) : Type 0 where
  pub back : IsOut d.back d.before
  pub word : IsBegunIfAny d.bound d.word
  pub seen : AllBegun d.top d.seen
  pub share : d.share ≤ d.held + 1
  pub rest : d.share ≡ d.held + 1 → d.out ≡ []

abbrev pub ShownTo : View → Type 0
ShownTo (OfDesk d) = Shown d
ShownTo (OfLease l) = Unit {0}
ShownTo Spent = Unit {0}

abbrev pub Looked : Step (Unit {0}) → Seated → ℕ → Seated → Type 0
Looked st me found me' = (me' ≡ me) × ShownTo me.0
