-- The start of a job keeps what ties the books, the desk and the pool.
use Rattle.std.proofs.Common.{◌≡◌, ℕ, ◌+◌, ◌<◌, ◌≤◌, eqb, Bool, true, false, List, [], ◌∷◌, ◌++◌, slice_set, Option, Some, None, option_to_list, sym, refl, ap, ◌∙◌, subst, arith}
use Rattle.std.proofs.lemmas.Bool.{eqb-true, eq-eqb}
use Rattle.std.proofs.lemmas.List.{get_or-set_other, length-set}
use Rattle.counting.specs.Count.{times}
use Rattle.counting.proofs.Count.{one_if-same, times-snoc}
use Rattle.lease_table.specs.Desk.{DeskState, after_lend}
use Rattle.token_pool.specs.Pool.{PoolState}
use Rattle.coord_core.specs.State.{queued_at}
use Rattle.coord_run.specs.Books.{BooksState, state_of, parted}
use Rattle.coord_run.specs.Tied.{Start, HasPart, Tied}
use Rattle.coord_run.proofs.EventLemmas.{bound-of, hand-of}

append-none : (l : List ℕ) → l ≡ l ++ []
append-none [] = refl
append-none (x ∷ xs) = ap (λ (t : List ℕ). x ∷ t) (append-none xs)

module _ {P F : Type 0} (c : Start P F) (b : BooksState P F) (i : ℕ) (rest : List ℕ) (d : DeskState) (p : PoolState) (w : ℕ) (h : Tied c b (i ∷ rest) d p w) where
  -- what a dispatch of the first job that is due requires
  pub may-dispatch : (1 ≤ d.share) × (times i d.out ≡ 0) × (i < b.terms.units) × HasPart c.meaning b.parts i × (w < 64)
  may-dispatch =
      let k = bound-of c b (i ∷ rest) d p w h in let o = k.out in let l = k.held in
      let z = hand-of c b (i ∷ rest) d p w h in
      let y = z.once i in let m = z.most in
      let e = h.paid.held in let q = h.paid.share in let r = h.paid.out i in let v = h.paid.waits in let u = one_if-same i in let n = h.sized.most_lanes in
      let low = z.below i (omega arith) in
      (omega arith, omega arith, omega arith, h.parts i (omega arith), omega arith)

  other-part : (x : ℕ) → 1 ≤ queued_at x (state_of b).queue + times x rest → (t : Bool) → eqb x i ≡ t → HasPart c.meaning (slice_set b.parts i None) x
  other-part x at true is =
      let e : x ≡ i = eqb-true x i is in
      let q : queued_at x (state_of b).queue ≡ queued_at i (state_of b).queue = ap (λ (k : ℕ). queued_at k (state_of b).queue) e in
      let t : times x rest ≡ times i rest = ap (λ (k : ℕ). times k rest) e in
      let r = h.paid.out i in let u = one_if-same i in
      let y = (hand-of c b (i ∷ rest) d p w h).once i in absurd (omega arith)
  other-part x at false is = let k = h.parts x (omega arith) in (k.0, get_or-set_other b.parts i x None None (λ e. absurd (let z = eq-eqb x i e in cc)) ∙ k.1, k.2)

  pub dispatched-ties : (w' : ℕ) → w' ≡ w + 1 → Tied c (parted i None b) rest (after_lend (Some i) d) p w'
  dispatched-ties w' more =
      let e = h.paid.held in let q = h.paid.share in let v = h.paid.waits in
      let m = may-dispatch.0 in
      record {
        table = h.table;
        sized = record { units = h.sized.units; terms_are = h.sized.terms_are; some_lane = h.sized.some_lane; most_lanes = h.sized.most_lanes; most_units = h.sized.most_units; width = h.sized.width; part_width = length-set b.parts i None ∙ h.sized.part_width };
        lawful = h.lawful;
        turns = h.turns;
        noted = h.noted;
        paid = record { held = e; share = omega arith; out = λ y. let r = h.paid.out y in let n = times-snoc y i d.out in omega arith; waits = omega arith };
        pooled = h.pooled;
        tally = h.tally;
        parts = λ x at. other-part x at (eqb x i) refl;
      }

module _ {P F : Type 0} where
  pub tied-as : (c : Start P F) (b b' : BooksState P F) (due due' : List ℕ) (d d' : DeskState) (p : PoolState) (w : ℕ) → b' ≡ b → due' ≡ due → d' ≡ d → Tied c b due d p w → Tied c b' due' d' p w
  tied-as c b b' due due' d d' p w eb edue ed h = subst (λ (z : BooksState P F). Tied c z due' d' p w) (sym eb) (subst (λ (z : List ℕ). Tied c b z d' p w) (sym edue) (subst (λ (z : DeskState). Tied c b due z p w) (sym ed) h))

  pub tied-job : (c : Start P F) (b : BooksState P F) (job : Option ℕ) (i : ℕ) (rest : List ℕ) (d : DeskState) (p : PoolState) (w : ℕ) → job ≡ Some i → Tied c b (option_to_list job ++ rest) d p w → Tied c b (i ∷ rest) d p w
  tied-job c b job i rest d p w is h = subst (λ (z : Option ℕ). Tied c b (option_to_list z ++ rest) d p w) is h

  pub tied-list : (c : Start P F) (b : BooksState P F) (l m rest : List ℕ) (d : DeskState) (p : PoolState) (w : ℕ) → m ≡ l → Tied c b (l ++ rest) d p w → Tied c b (m ++ rest) d p w
  tied-list c b l m rest d p w is h = subst (λ (z : List ℕ). Tied c b (z ++ rest) d p w) (sym is) h

  pub tied-end : (c : Start P F) (b : BooksState P F) (l : List ℕ) (d : DeskState) (p : PoolState) (w : ℕ) → Tied c b l d p w → Tied c b (l ++ []) d p w
  tied-end c b l d p w h = subst (λ (z : List ℕ). Tied c b z d p w) (append-none l) h

-- the peak is no higher than this, so it isn't at the desk that it is
pub fallen-desk : (d d' : DeskState) (most : ℕ) → d' ≡ d → d'.peak ≤ most → d.peak ≤ most
fallen-desk d d' most e h = subst (λ (z : DeskState). z.peak ≤ most) e h
