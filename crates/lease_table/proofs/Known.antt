-- The moves at a seat whose view is known, and what they make of it.
use Rattle.std.proofs.Common.{◌≡◌, ℕ, ◌+◌, ◌-◌, ◌%◌, ◌^◌, ◌<◌, ◌≤◌, true, false, [], Some, None, Option, sym, ap, ◌∙◌, subst}
use mathlib.Core.Option.{none}
use Rattle.counting.specs.Count.{times}
use Rattle.atomic_table.specs.Seated.{TableId}
use Rattle.atomic_table.specs.Table.{Me, step, Allows, Splits, Joins}
use Rattle.lease_table.specs.declared.reading.Reading.{Reading}
use Rattle.lease_table.specs.declared.view.DeskView.{DeskView}
use Rattle.lease_table.specs.declared.view.LeaseView.{LeaseView}
use Rattle.lease_table.specs.declared.view.View.{View}
use Rattle.lease_table.specs.declared.view.View.TheVariants.{OfDesk, OfLease, Spent}
use Rattle.lease_table.specs.View.{opened}
use Rattle.lease_table.specs.Rule.{Ruled}
use Rattle.lease_table.specs.Steps.{on_desk, on_lease, lease_begun, lease_ended, desk_spent, desk_side, lease_side, both_sides, alone_lease, Took, Gave, Named, Began, Stood, Ended, Looked}
use Rattle.lease_table.specs.Desk.{desk_of}
use Rattle.lease_table.specs.Lease.{lease_of, word_or, IsLease}
use Rattle.lease_table.proofs.DeskMoves.{takes, gives, names, lends, spends, looks}
use Rattle.lease_table.proofs.LeaseMoves.{begins, stands, ends}

abbrev Seated : Type 0
Seated = Me (Unit {0}) View

-- a seat that has this view is a lease's, and this is its view
pub lease_of-known : (me : Seated) (l : LeaseView) → me ≡ (OfLease l, []) → (me ≡ (OfLease (lease_of me.0), [])) × (lease_of me.0 ≡ l)
lease_of-known me l e = (e ∙ sym (ap (λ (m : Seated). let x : Seated = (OfLease (lease_of m.0), []) in x) e), ap (λ (m : Seated). lease_of m.0) e)

-- the moves, at a view that is known through the seat
pub begins_at : (slots id : ℕ) (me : Seated) → me ≡ (OfLease (lease_of me.0), []) → (lease_of me.0).busy ≡ false → Allows Ruled slots id me 0 (λ n. (n + 1) % 2 ^ 64) (Began (step slots 0 1 0 none) me)
begins_at slots id me is idle = subst (λ (m : Seated). Allows Ruled slots id m 0 (λ n. (n + 1) % 2 ^ 64) (Began (step slots 0 1 0 none) m)) (sym is) (begins slots id (lease_of me.0) idle)

pub stands_at : (slots id : ℕ) (me : Seated) → me ≡ (opened, []) → Allows Ruled slots id me 0 (λ n. (n + 1) % 2 ^ 64) (Stood (step slots 0 1 0 none) me)
stands_at slots id me is = subst (λ (m : Seated). Allows Ruled slots id m 0 (λ n. (n + 1) % 2 ^ 64) (Stood (step slots 0 1 0 none) m)) (sym is) (stands slots id)

pub ends_at : (slots id : ℕ) (me : Seated) → me ≡ (OfLease (lease_of me.0), []) → (lease_of me.0).busy ≡ true → Allows Ruled slots id me 0 (λ n. (n + (2 ^ 64 - 1)) % 2 ^ 64) (Ended (step slots 0 1 0 none) me)
ends_at slots id me is busy = subst (λ (m : Seated). Allows Ruled slots id m 0 (λ n. (n + (2 ^ 64 - 1)) % 2 ^ 64) (Ended (step slots 0 1 0 none) m)) (sym is) (ends slots id (lease_of me.0) busy)

pub takes_at : (slots id : ℕ) (me : Seated) → me ≡ (OfDesk (desk_of me.0), []) → (desk_of me.0).held < 63 → Allows Ruled slots id me 0 (λ n. (n + 4294967296) % 2 ^ 64) (Took (step slots 0 4294967296 0 none) me)
takes_at slots id me is room = subst (λ (m : Seated). Allows Ruled slots id m 0 (λ n. (n + 4294967296) % 2 ^ 64) (Took (step slots 0 4294967296 0 none) m)) (sym is) (takes slots id (desk_of me.0) room)

pub gives_at : (slots id : ℕ) (me : Seated) → me ≡ (OfDesk (desk_of me.0), []) → 1 ≤ (desk_of me.0).held → 1 ≤ (desk_of me.0).share → Allows Ruled slots id me 0 (λ n. (n + (2 ^ 64 - 4294967296)) % 2 ^ 64) (Gave (step slots 0 4294967296 0 none) me)
gives_at slots id me is some_held some_share = subst (λ (m : Seated). Allows Ruled slots id m 0 (λ n. (n + (2 ^ 64 - 4294967296)) % 2 ^ 64) (Gave (step slots 0 4294967296 0 none) m)) (sym is) (gives slots id (desk_of me.0) some_held some_share)

pub names_at : (slots id job : ℕ) (me : Seated) → me ≡ (OfDesk (desk_of me.0), []) → times job (desk_of me.0).out ≡ 0 → Allows Ruled slots id me 1 (λ _. job) (Named (step slots 1 job 0 none) me)
names_at slots id job me is absent = subst (λ (m : Seated). Allows Ruled slots id m 1 (λ _. job) (Named (step slots 1 job 0 none) m)) (sym is) (names slots id job (desk_of me.0) absent)

pub lends_at : (id : ℕ) (me : Seated) (d : DeskView) → me ≡ (OfDesk d, []) → 1 ≤ d.share → Splits Ruled id me.0 (desk_side me.0) (lease_side me.0)
lends_at id me d is some_share = subst (λ (v : View). Splits Ruled id v (desk_side v) (lease_side v)) (sym (ap (λ (m : Seated). m.0) is)) (lends id d some_share)

pub spends_at : (id : ℕ) (me : Seated) (other : ℕ) (it : Seated) → me ≡ (OfDesk (desk_of me.0), []) → it ≡ (OfLease (lease_of it.0), []) → (lease_of it.0).busy ≡ false → Joins Ruled id me.0 other it.0 (both_sides me.0 it.0) Spent
spends_at id me other it is it_is idle = subst (λ (z : View × View). Joins Ruled id z.0 other z.1 (both_sides z.0 z.1) Spent) (λ i. ((sym is i).0, (sym it_is i).0)) (spends id (desk_of me.0) other (lease_of it.0) idle)

pub looks_at : (slots id : ℕ) (me : Seated) (d : DeskView) → me ≡ (OfDesk d, []) → Allows Ruled slots id me 0 (λ n. n) (Looked (step slots 0 0 0 none) me)
looks_at slots id me d is = subst (λ (m : Seated). Allows Ruled slots id m 0 (λ n. n) (Looked (step slots 0 0 0 none) m)) (sym is) (looks slots id d)

-- the views afterwards
pub on_desk-known : (f : DeskView → DeskView) (me me' : Seated) (d : DeskView) → me ≡ (OfDesk d, []) → me' ≡ (on_desk f me.0, me.1) → me' ≡ (OfDesk (f d), [])
on_desk-known f me me' d is new = new ∙ ap (λ (m : Seated). let x : Seated = (on_desk f m.0, m.1) in x) is

pub on_lease-known : (f : LeaseView → LeaseView) (me me' : Seated) (l : LeaseView) → me ≡ (OfLease l, []) → me' ≡ (on_lease f me.0, me.1) → me' ≡ (OfLease (f l), [])
on_lease-known f me me' l is new = new ∙ ap (λ (m : Seated). let x : Seated = (on_lease f m.0, m.1) in x) is

pub both_sides-known : (me it me' : Seated) → me ≡ (OfDesk (desk_of me.0), []) → it ≡ (OfLease (lease_of it.0), []) → me' ≡ (both_sides me.0 it.0, me.1) → me' ≡ (OfDesk (desk_spent (desk_of me.0) (lease_of it.0)), [])
both_sides-known me it me' is it_is new = new ∙ (λ i. let x : Seated = (both_sides (is i).0 (it_is i).0, (is i).1) in x)

-- a lease that has begun is busy, and one that has ended is not
pub IsLease-begun : (table at at' : TableId) (me me' : Seated) (r : Reading) (job : Option ℕ) → IsLease table at me job false → at' ≡ at → me' ≡ (on_lease (lease_begun r) me.0, me.1) → IsLease table at' me' job true
IsLease-begun table at at' me me' r job known e new =
    let l = lease_of-known me' (lease_begun r (lease_of me.0)) (on_lease-known (lease_begun r) me me' (lease_of me.0) known.lease new) in
    let word : (lease_of me'.0).word ≡ Some r = ap (λ (l : LeaseView). l.word) l.1 in
    record { same = e ∙ known.same; wide = known.wide; lease = l.0; job_is = ap (λ (l : LeaseView). l.job) l.1 ∙ known.job_is; busy_is = ap (λ (l : LeaseView). l.busy) l.1; begun = λ _. word ∙ sym (ap (λ (o : Option Reading). Some (word_or o)) word) }

-- the lease that has a table of its own
pub IsLease-alone : (table at : TableId) (me me' : Seated) → table.words ≡ 2 → at ≡ table → me ≡ (opened, []) → me' ≡ (OfLease alone_lease, me.1) → IsLease table at me' None true × (lease_of me'.0 ≡ alone_lease)
IsLease-alone table at me me' wide same is new =
    let l = lease_of-known me' alone_lease (new ∙ ap (λ (m : Seated). let x : Seated = (OfLease alone_lease, m.1) in x) is) in
    let word : (lease_of me'.0).word ≡ alone_lease.word = ap (λ (l : LeaseView). l.word) l.1 in
    (record { same = same; wide = wide; lease = l.0; job_is = ap (λ (l : LeaseView). l.job) l.1; busy_is = ap (λ (l : LeaseView). l.busy) l.1; begun = λ _. word ∙ sym (ap (λ (o : Option Reading). Some (word_or o)) word) }, l.1)

pub IsLease-ended : (table at at' : TableId) (me me' : Seated) (job : Option ℕ) → IsLease table at me job true → at' ≡ at → me' ≡ (on_lease lease_ended me.0, me.1) → IsLease table at' me' job false
IsLease-ended table at at' me me' job known e new =
    let l = lease_of-known me' (lease_ended (lease_of me.0)) (on_lease-known lease_ended me me' (lease_of me.0) known.lease new) in
    record { same = e ∙ known.same; wide = known.wide; lease = l.0; job_is = ap (λ (l : LeaseView). l.job) l.1 ∙ known.job_is; busy_is = ap (λ (l : LeaseView). l.busy) l.1; begun = λ b. absurd (cc) }
