-- What is so once the desk has all shares, and how the peak begins anew then.
use Rattle.std.proofs.Common.{◌≡◌, ◌≢◌, ℕ, ◌+◌, ◌≤◌, Bool, true, false, eqb, cond, List, [], set, sym, refl, ap, ◌∙◌, ◌⊎◌, inl, inr, ⊎_elim, arith}
use Rattle.std.proofs.lemmas.Bool.{eqb-true}
use mathlib.Core.Option.{some}
use lib.ListN.{get_elem?}
use Rattle.atomic_table.proofs.Lists.{set_else}
use Rattle.lease_table.specs.declared.view.DeskView.{DeskView}
use Rattle.lease_table.specs.declared.view.View.{View}
use Rattle.lease_table.specs.declared.view.View.TheVariants.{OfDesk, OfLease, Spent}
use Rattle.counting.specs.Count.{times, total}
use Rattle.counting.proofs.Count.{total-set, total-mono, total-at}
use Rattle.lease_table.specs.View.{share_of, job_of, peak_at}
use Rattle.lease_table.specs.Rule.{Fits}
use Rattle.lease_table.proofs.JobLemmas.{times_job-le, no-times}
use Rattle.lease_table.proofs.ViewLemmas.{Fits-mono}

-- the peak begins anew, or stays
pub peak_at-cases : (share held peak : ℕ) → ((share ≡ held + 1) × (peak_at share held peak ≡ held)) ⊎ (peak_at share held peak ≡ peak)
peak_at-cases share held peak = either_way (eqb share (held + 1)) refl
  where
    either_way : (b : Bool) → eqb share (held + 1) ≡ b → ((share ≡ held + 1) × (peak_at share held peak ≡ held)) ⊎ (peak_at share held peak ≡ peak)
    either_way true is = inl (eqb-true share (held + 1) is, ap (λ (b : Bool). cond b held peak) is)
    either_way false is = inr (ap (λ (b : Bool). cond b held peak) is)

pub peak_at-between : (share held peak : ℕ) → held ≤ peak → (held ≤ peak_at share held peak) × (peak_at share held peak ≤ peak)
peak_at-between share held peak high = ⊎_elim (λ (x : (share ≡ held + 1) × (peak_at share held peak ≡ held)). let e = x.1 in (omega arith, omega arith)) (λ (e : peak_at share held peak ≡ peak). (omega arith, omega arith)) (peak_at-cases share held peak)

-- where the desk has all shares, any other view has none
pub others_bare : (views : List View) (id i held : ℕ) (d : DeskView) (v : View) → total share_of views ≡ held + 1 → get_elem? views id ≡ some (OfDesk d) → d.share ≡ held + 1 → i ≢ id → get_elem? views i ≡ some v → share_of v ≡ 0
others_bare views id i held d v shares at all other there =
    let without_v = set views i Spent in
    let t = total-set share_of views i v Spent there in
    let still : get_elem? without_v id ≡ some (OfDesk d) = set_else views i id Spent (λ e. other (sym e)) ∙ at in
    let mine = total-at share_of without_v id (OfDesk d) still in
    omega arith

job_share : (x : ℕ) (v : View) → job_of x v ≤ share_of v
job_share x (OfDesk d) = omega arith
job_share x (OfLease l) = times_job-le x l.job
job_share x Spent = omega arith

-- and no job is out
pub none_out : (views : List View) (id held : ℕ) (d : DeskView) (out : List ℕ) → total share_of views ≡ held + 1 → get_elem? views id ≡ some (OfDesk d) → d.share ≡ held + 1 → ((x : ℕ) → times x out ≡ total (job_of x) views) → out ≡ []
none_out views id held d out shares at all jobs = no-times out none
  where
    none : (x : ℕ) → times x out ≡ 0
    none x =
        let share = total-set share_of views id (OfDesk d) Spent at in
        let job = total-set (job_of x) views id (OfDesk d) Spent at in
        let le = total-mono (job_of x) share_of (job_share x) (set views id Spent) in
        let j = jobs x in
        omega arith

-- A view that is not the desk's fits the peak of a desk with this share and this number held, since it has no share itself where that begins anew.
pub Fits-peak_at : (held top peak held' top' share now before : ℕ) (out out' : List ℕ) (i : ℕ) (v : View) → peak ≤ before → (share ≡ now + 1 → share_of v ≡ 0) → i ≢ 0 → Fits held top peak out i v → Fits held' top' (peak_at share now before) out' i v
Fits-peak_at held top peak held' top' share now before out out' i (OfDesk d) le bare other f = absurd (other f.0)
Fits-peak_at held top peak held' top' share now before out out' i (OfLease l) le bare other f =
    ⊎_elim (λ (x : (share ≡ now + 1) × (peak_at share now before ≡ now)). absurd (let none = bare x.0 in omega arith))
    (λ (e : peak_at share now before ≡ before). Fits-mono held top peak held' top' (peak_at share now before) out out' i (OfLease l) (omega arith) other f) (peak_at-cases share now before)
Fits-peak_at held top peak held' top' share now before out out' i Spent le bare other f = tt
