-- Each step on the queue of free bytes keeps the rule, and what a look at it tells.
use Rattle.std.proofs.Common.{◌≡◌, ◌≢◌, ℕ, zero, suc, ◌+◌, ◌-◌, ◌≤◌, List, [], ◌∷◌, ◌++◌, length, set, sym, refl, ap, ◌∙◌, subst, ⊎_elim, arith}
use Rattle.std.proofs.lemmas.List.{length-append}
use mathlib.Core.Option.{some, some-injective, some-ne-none}
use lib.ListN.{get_elem?}
use Rattle.counting.specs.Count.{times, total}
use Rattle.counting.proofs.Count.{times-snoc, times-without, total-set, total-snoc, total-at, length-without}
use Rattle.crossbeam_queue.specs.Fifo.{Pushes, Pops, Forks, Merges, Learns}
use Rattle.crossbeam_queue.proofs.Lists.{at_set, at_snoc}
use Rattle.token_pool.specs.declared.view.Hand.{Hand}
use Rattle.token_pool.specs.declared.view.View.{View}
use Rattle.token_pool.specs.declared.view.View.TheVariants.{OfPool, OfPass, Spent}
use Rattle.token_pool.specs.View.{hand_of, pass_of, owed_of, owes_of, IsCovered, IsLive}
use Rattle.token_pool.specs.Rule.{Fits, Holds, Ruled}
use Rattle.token_pool.specs.Steps.{opened, hand_filled, hand_took, hand_gave, Filled, Took, Gave, HasRoom, Accounts, pool_side, pass_side, both_sides}

-- a view in the list with w at seat is w, or another's as before
fits_set : (views : List View) (seat : ℕ) (w : View) (F G : ℕ → View → Type 0) → G seat w → ((i : ℕ) (v : View) → i ≢ seat → F i v → G i v) → ((i : ℕ) (v : View) → get_elem? views i ≡ some v → F i v)
    → (i : ℕ) (v : View) → get_elem? (set views seat w) i ≡ some v → G i v
fits_set views seat w F G mine more fits i v e = ⊎_elim
    (λ (x : (i ≡ seat) × (w ≡ v)). subst (λ (z : ℕ × View). G z.0 z.1) (λ k. (sym x.0 k, x.1 k)) mine)
    (λ (x : (i ≢ seat) × (get_elem? views i ≡ some v)). more i v x.0 (fits i v x.1))
    (at_set views seat i w v e)

-- only the pool's own view speaks of how many passes are out
Fits-other : (bytes : List ℕ) (passes passes' i : ℕ) (v : View) → i ≢ 0 → Fits bytes passes i v → Fits bytes passes' i v
Fits-other bytes passes passes' i (OfPool hand out) other f = absurd (other f.0)
Fits-other bytes passes passes' i (OfPass hand) other f = f
Fits-other bytes passes passes' i Spent other f = tt

total-zero : (f : View → ℕ) (l : List View) → ((i : ℕ) (v : View) → get_elem? l i ≡ some v → f v ≡ 0) → total f l ≡ 0
total-zero f [] none = refl
total-zero f (x ∷ xs) none = let h = none 0 x refl in let r = total-zero f xs (λ i v e. none (suc i) v e) in omega arith

total-first : (f : View → ℕ) (l : List View) (seat : ℕ) (v : View) → seat ≡ 0 → get_elem? l seat ≡ some v → ((i : ℕ) (w : View) → i ≢ 0 → get_elem? l i ≡ some w → f w ≡ 0) → total f l ≡ f v
total-first f [] seat v first e none = absurd (some-ne-none v (sym e))
total-first f (x ∷ xs) zero v first e none =
    let is : f x ≡ f v = ap f (some-injective x v e) in
    let r = total-zero f xs (λ i w at. none (suc i) w (λ (z : suc i ≡ 0). omega arith) at) in
    omega arith
total-first f (x ∷ xs) (suc seat) v first e none = absurd (omega arith)

-- while no pass is out, whoever is not the pool is spent
spent_else : (f : View → ℕ) (bytes free : List ℕ) (views : List View) → f Spent ≡ 0 → Holds bytes 0 free views → (i : ℕ) (w : View) → i ≢ 0 → get_elem? views i ≡ some w → f w ≡ 0
spent_else f bytes free views none h i (OfPool hand out) other at = absurd (other (h.fits i (OfPool hand out) at).0)
spent_else f bytes free views none h i (OfPass hand) other at = let t = total-at pass_of views i (OfPass hand) at in let o = h.out in absurd (omega arith)
spent_else f bytes free views none h i Spent other at = none

-- a pass has another view, and the free bytes and what it owes move the same way
Holds-set : (bytes : List ℕ) (passes : ℕ) (free free' : List ℕ) (views : List View) (seat : ℕ) (v w : View) → Holds bytes passes free views → get_elem? views seat ≡ some v
    → ((x : ℕ) → times x free' + owed_of x w ≡ times x free + owed_of x v) → length free' + owes_of w ≡ length free + owes_of v → pass_of w ≡ pass_of v → Fits bytes passes seat w
    → Holds bytes passes free' (set views seat w)
Holds-set bytes passes free free' views seat v w h at moves long same fit = record {
  each = λ x. let t = total-set (owed_of x) views seat v w at in let m = moves x in let e = h.each x in omega arith;
  all = let t = total-set owes_of views seat v w at in let a = h.all in omega arith;
  out = let t = total-set pass_of views seat v w at in let o = h.out in omega arith;
  fits = fits_set views seat w (Fits bytes passes) (Fits bytes passes) fit (λ i u other f. f) h.fits;
}

pub opens : Ruled [] (opened ∷ [])
opens = ([], 0, record { each = λ x. refl; all = refl; out = refl; fits = first })
  where
    first : (i : ℕ) (v : View) → get_elem? (opened ∷ []) i ≡ some v → Fits [] 0 i v
    first zero v e = subst (Fits [] 0 0) (some-injective _ _ e) (refl, refl, refl)
    first (suc i) v e = absurd (some-ne-none v (sym e))

pub fills : (n seat : ℕ) (hand : Hand) (byte : ℕ) → Pushes Ruled n seat (OfPool hand 0) byte (Filled (OfPool hand 0) byte)
fills n seat hand byte free views room kept at =
    let bytes : List ℕ = kept.0 in
    let passes : ℕ = kept.1 in
    let held : Holds bytes passes free views = kept.2 in
    let mine : Fits bytes passes seat (OfPool hand 0) = held.fits seat (OfPool hand 0) at in
    let h : Holds bytes 0 free views = subst (λ (p : ℕ). Holds bytes p free views) (sym mine.2) held in
    let bytes' = hand.bytes ++ byte ∷ [] in
    let w = OfPool (hand_filled byte hand) 0 in (
      w,
      (
        bytes',
        0,
        record {
          each = λ x. let t = total-set (owed_of x) views seat (OfPool hand 0) w at in let e = h.each x in let b : times x hand.bytes ≡ times x bytes = ap (times x) mine.1 in let s = times-snoc x byte hand.bytes in let s' = times-snoc x byte free in omega arith;
          all = let t = total-set owes_of views seat (OfPool hand 0) w at in let a = h.all in let b : length hand.bytes ≡ length bytes = ap length mine.1 in let s = length-append hand.bytes (byte ∷ []) in let s' = length-append free (byte ∷ []) in omega arith;
          out = let t = total-set pass_of views seat (OfPool hand 0) w at in let o = h.out in omega arith;
          fits = fits_set views seat w (λ i v. (get_elem? views i ≡ some v) × Fits bytes 0 i v) (Fits bytes' 0) (mine.0, refl, refl) (λ i v other f. alone i v (λ z. other (z ∙ sym mine.0)) f.0 f.1) (λ i v e. (e, h.fits i v e));
        },
      ),
      refl,
    )
  where
    alone : (i : ℕ) (v : View) → i ≢ 0 → get_elem? views i ≡ some v → Fits kept.0 0 i v → Fits (hand.bytes ++ byte ∷ []) 0 i v
    alone i (OfPool other out) apart e f = absurd (apart f.0)
    alone i (OfPass other) apart e f = let mine = kept.2.fits seat (OfPool hand 0) at in let t = total-at pass_of views i (OfPass other) e in let o = kept.2.out in let p = mine.2 in absurd (omega arith)
    alone i Spent apart e f = tt

covered : (bytes : List ℕ) (passes byte : ℕ) (free : List ℕ) (views : List View) (seat : ℕ) (v : View) (hand : Hand) → Holds bytes passes (byte ∷ free) views → get_elem? views seat ≡ some v → hand_of v ≡ hand → hand.bytes ≡ bytes
    → IsCovered (hand_took byte hand)
covered bytes passes byte free views seat v hand h at is same x =
    let t = total-at (owed_of x) views seat v at in
    let e = h.each x in
    let o : owed_of x v ≡ times x hand.owed = ap (λ (k : Hand). times x k.owed) is in
    let b : times x hand.bytes ≡ times x bytes = ap (times x) same in
    let s = times-snoc x byte hand.owed in
    omega arith

pub takes : (seat : ℕ) (v : View) → IsLive v → Pops Ruled seat v (Took v)
takes seat (OfPool hand out) live byte free views kept at =
    let h : Holds kept.0 kept.1 (byte ∷ free) views = kept.2 in
    let mine : Fits kept.0 kept.1 seat (OfPool hand out) = h.fits seat (OfPool hand out) at in
    let w = OfPool (hand_took byte hand) out in (
      w,
      (kept.0, kept.1, Holds-set kept.0 kept.1 (byte ∷ free) free views seat (OfPool hand out) w h at (λ x. let s = times-snoc x byte hand.owed in omega arith) (let s = length-append hand.owed (byte ∷ []) in omega arith) refl mine),
      (refl, covered kept.0 kept.1 byte free views seat (OfPool hand out) hand h at refl mine.1),
    )
takes seat (OfPass hand) live byte free views kept at =
    let h : Holds kept.0 kept.1 (byte ∷ free) views = kept.2 in
    let mine : Fits kept.0 kept.1 seat (OfPass hand) = h.fits seat (OfPass hand) at in
    let w = OfPass (hand_took byte hand) in (
      w,
      (kept.0, kept.1, Holds-set kept.0 kept.1 (byte ∷ free) free views seat (OfPass hand) w h at (λ x. let s = times-snoc x byte hand.owed in omega arith) (let s = length-append hand.owed (byte ∷ []) in omega arith) refl mine),
      (refl, covered kept.0 kept.1 byte free views seat (OfPass hand) hand h at refl mine),
    )
takes seat Spent live byte free views kept at = absurd live

pub gives : (n seat : ℕ) (v : View) (byte : ℕ) → IsLive v → 1 ≤ times byte (hand_of v).owed → Pushes Ruled n seat v byte (Gave v byte)
gives n seat (OfPool hand out) byte live owed free views room kept at =
    let h : Holds kept.0 kept.1 free views = kept.2 in
    let w = OfPool (hand_gave byte hand) out in (
      w,
      (kept.0, kept.1, Holds-set kept.0 kept.1 free (free ++ byte ∷ []) views seat (OfPool hand out) w h at (λ x. let s = times-snoc x byte free in let o = times-without x byte hand.owed owed in omega arith) (let s = length-append free (byte ∷ []) in let o = length-without byte hand.owed owed in omega arith) refl (h.fits seat (OfPool hand out) at)),
      refl,
    )
gives n seat (OfPass hand) byte live owed free views room kept at =
    let h : Holds kept.0 kept.1 free views = kept.2 in
    let w = OfPass (hand_gave byte hand) in (
      w,
      (kept.0, kept.1, Holds-set kept.0 kept.1 free (free ++ byte ∷ []) views seat (OfPass hand) w h at (λ x. let s = times-snoc x byte free in let o = times-without x byte hand.owed owed in omega arith) (let s = length-append free (byte ∷ []) in let o = length-without byte hand.owed owed in omega arith) refl (h.fits seat (OfPass hand) at)),
      refl,
    )
gives n seat Spent byte live owed free views room kept at = absurd live

pub has_room : (seat : ℕ) (v : View) → IsLive v → Learns Ruled seat v (HasRoom v)
has_room seat (OfPool hand out) live free views kept at =
    let h : Holds kept.0 kept.1 free views = kept.2 in
    let b : length hand.bytes ≡ length kept.0 = ap length (h.fits seat (OfPool hand out) at).1 in
    let t = total-at owes_of views seat (OfPool hand out) at in
    let a = h.all in
    omega arith
has_room seat (OfPass hand) live free views kept at =
    let h : Holds kept.0 kept.1 free views = kept.2 in
    let b : length hand.bytes ≡ length kept.0 = ap length (h.fits seat (OfPass hand) at) in
    let t = total-at owes_of views seat (OfPass hand) at in
    let a = h.all in
    omega arith
has_room seat Spent live free views kept at = absurd live

pub accounts : (seat : ℕ) (v : View) → Learns Ruled seat v (Accounts v)
accounts seat (OfPool hand zero) free views kept at = λ x.
    let held : Holds kept.0 kept.1 free views = kept.2 in
    let mine : Fits kept.0 kept.1 seat (OfPool hand zero) = held.fits seat (OfPool hand zero) at in
    let h : Holds kept.0 0 free views = subst (λ (p : ℕ). Holds kept.0 p free views) (sym mine.2) held in
    let t = total-first (owed_of x) views seat (OfPool hand zero) mine.0 at (spent_else (owed_of x) kept.0 free views refl h) in
    let b : times x hand.bytes ≡ times x kept.0 = ap (times x) mine.1 in
    let e = h.each x in
    omega arith
accounts seat (OfPool hand (suc out)) free views kept at = tt
accounts seat (OfPass hand) free views kept at = tt
accounts seat Spent free views kept at = tt

pub forks : (seat : ℕ) (hand : Hand) (out : ℕ) → Forks Ruled seat (OfPool hand out) (pool_side (OfPool hand out)) (pass_side (OfPool hand out))
forks seat hand out free views kept at =
    let bytes : List ℕ = kept.0 in
    let passes : ℕ = kept.1 in
    let h : Holds bytes passes free views = kept.2 in
    let v = OfPool hand out in
    let mine : Fits bytes passes seat v = h.fits seat v at in
    let w = pool_side v in
    let u = pass_side v in
    let views' = set views seat w in
    let set_fits = fits_set views seat w (Fits bytes passes) (Fits bytes (passes + 1)) (mine.0, mine.1, ap (λ (k : ℕ). k + 1) mine.2) (λ i k other f. Fits-other bytes passes (passes + 1) i k (λ z. other (z ∙ sym mine.0)) f) h.fits in (
      bytes,
      passes + 1,
      record {
        each = λ x. let t = total-set (owed_of x) views seat v w at in let t' = total-snoc (owed_of x) views' u in let e = h.each x in omega arith;
        all = let t = total-set owes_of views seat v w at in let t' = total-snoc owes_of views' u in let a = h.all in omega arith;
        out = let t = total-set pass_of views seat v w at in let t' = total-snoc pass_of views' u in let o = h.out in omega arith;
        fits = λ i k e. ⊎_elim (λ (old : get_elem? views' i ≡ some k). set_fits i k old) (λ (new : u ≡ k). subst (Fits bytes (passes + 1) i) new mine.1) (at_snoc views' u k i e);
      },
    )

pub merges : (seat : ℕ) (hand : Hand) (out other : ℕ) (back : Hand) → back.owed ≡ [] → Merges Ruled seat (OfPool hand out) other (OfPass back) (both_sides (OfPool hand out) (OfPass back)) Spent
merges seat hand out other back settled free views kept at apart there =
    let bytes : List ℕ = kept.0 in
    let passes : ℕ = kept.1 in
    let h : Holds bytes passes free views = kept.2 in
    let v = OfPool hand out in
    let mine : Fits bytes passes seat v = h.fits seat v at in
    let w = both_sides v (OfPass back) in
    let views' = set views seat w in
    let set_fits = fits_set views seat w (Fits bytes passes) (Fits bytes (passes - 1)) (mine.0, mine.1, ap (λ (k : ℕ). k - 1) mine.2) (λ i k no_pool f. Fits-other bytes passes (passes - 1) i k (λ z. no_pool (z ∙ sym mine.0)) f) h.fits in (
      bytes,
      passes - 1,
      record {
        each = λ x. let t = total-set (owed_of x) views seat v w at in let t' = total-set (owed_of x) views' other (OfPass back) Spent there in let e = h.each x in let s : times x back.owed ≡ 0 = ap (times x) settled in omega arith;
        all = let t = total-set owes_of views seat v w at in let t' = total-set owes_of views' other (OfPass back) Spent there in let a = h.all in let s : length back.owed ≡ 0 = ap length settled in omega arith;
        out = let t = total-set pass_of views seat v w at in let t' = total-set pass_of views' other (OfPass back) Spent there in let o = h.out in omega arith;
        fits = fits_set views' other Spent (Fits bytes (passes - 1)) (Fits bytes (passes - 1)) tt (λ i k no_more f. f) set_fits;
      },
    )
