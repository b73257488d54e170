-- Views in the list of all views.
use Rattle.std.proofs.Common.{◌≡◌, ◌≢◌, ℕ, zero, suc, ◌≤◌, true, false, List, [], ◌∷◌, set, sym, refl, subst, ⊎_elim, arith}
use mathlib.Core.Option.{some, some-ne-none}
use lib.ListN.{get_elem?}
use Rattle.atomic_table.proofs.Lists.{at_set}
use Rattle.lease_table.specs.declared.view.View.{View}
use Rattle.lease_table.specs.declared.view.View.TheVariants.{OfDesk, OfLease, Spent}
use Rattle.counting.specs.Count.{one_if}
use Rattle.lease_table.specs.View.{share_of, busy_of}
use Rattle.lease_table.specs.Rule.{Fits}
use Rattle.lease_table.proofs.ReadingLemmas.{IsBegunIfAny-mono}

pub busy_share : (v : View) → busy_of v ≤ share_of v
busy_share (OfDesk d) = omega arith
busy_share (OfLease l) = elim l.busy as (λ b. one_if b ≤ 1) [ true ↦ omega arith | false ↦ omega arith ]
busy_share Spent = omega arith

-- the place that is set has what was set
pub at_there : (views : List View) (id : ℕ) (v w : View) → get_elem? views id ≡ some v → get_elem? (set views id w) id ≡ some w
at_there [] id v w at = absurd (some-ne-none v (sym at))
at_there (x ∷ views) zero v w at = refl
at_there (x ∷ views) (suc id) v w at = at_there views id v w at

-- a view in the list with w at id is w, or another's as before
pub fits_set : (views : List View) (id : ℕ) (w : View) (F G : ℕ → View → Type 0) → G id w → ((i : ℕ) (v : View) → i ≢ id → get_elem? views i ≡ some v → F i v → G i v) → ((i : ℕ) (v : View) → get_elem? views i ≡ some v → F i v)
    → (i : ℕ) (v : View) → get_elem? (set views id w) i ≡ some v → G i v
fits_set views id w F G mine more fits i v e = ⊎_elim
    (λ (x : (i ≡ id) × (w ≡ v)). subst (λ (z : ℕ × View). G z.0 z.1) (λ k. (sym x.0 k, x.1 k)) mine)
    (λ (x : (i ≢ id) × (get_elem? views i ≡ some v)). more i v x.0 x.1 (fits i v x.1))
    (at_set views id i w v e)

-- a view that is not the desk's fits a higher peak, and any held, top and list
pub Fits-mono : (held top peak held' top' peak' : ℕ) (out out' : List ℕ) (i : ℕ) (v : View) → peak ≤ peak' → i ≢ 0 → Fits held top peak out i v → Fits held' top' peak' out' i v
Fits-mono held top peak held' top' peak' out out' i (OfDesk d) le other f = absurd (other f.0)
Fits-mono held top peak held' top' peak' out out' i (OfLease l) le other f = (IsBegunIfAny-mono peak peak' l.word le f.0, f.1)
Fits-mono held top peak held' top' peak' out out' i Spent le other f = tt
