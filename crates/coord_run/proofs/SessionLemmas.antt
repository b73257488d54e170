-- The beginning and the end of a session.
use Rattle.std.proofs.Common.{◌≡◌, ℕ, zero, suc, ◌+◌, ◌≤◌, ◌==◌, Bool, true, false, not, ◌&&◌, List, [], ◌∷◌, ◌++◌, length, slice_index_or, is_none, All, Option, Some, None, rules, sym, refl, ap, ◌∙◌, subst, arith}
use Rattle.counting.specs.Count.{times}
use Rattle.counting.proofs.Count.{one_if-same}
use Rattle.lease_table.specs.Desk.{DeskState, IsAtRest}
use Rattle.token_pool.specs.Pool.{PoolState}
use Rattle.coord_core.specs.declared.terms.Terms.{Terms}
use Rattle.coord_core.specs.declared.job.Job.{Job}
use Rattle.coord_core.specs.State.{one_some, payers, running_at}
use Rattle.coord_core.specs.Decide.{actions_of}
use Rattle.coord_core.specs.Run.{first, run, Lawful, is_finished}
use Rattle.coord_core.specs.Journal.{jobs_by, lowered, least}
use Rattle.coord_core.specs.Core.{terms_of}
use Rattle.coord_core.proofs.Bag.{returned}
use Rattle.coord_core.proofs.Cover.{finished_is}
use Rattle.coord_run.specs.declared.driven.Entry.{Entry}
use Rattle.coord_run.specs.declared.driven.Made.{Made as Outcome}
use Rattle.coord_run.specs.declared.driven.Made.TheVariants.{Skipped as Outcome-Skipped}
use Rattle.coord_run.specs.declared.driven.Driven.{Driven}
use Rattle.coord_run.specs.Meaning.{Meaning}
use Rattle.coord_run.specs.Journal.{events_of, jobs_ended, AtEach, HasReading, Empties, IsJournal}
use Rattle.coord_run.specs.Turns.{InTurn}
use Rattle.coord_run.specs.Outcomes.{outcomes_of, IsAfter, TellsOne, AreOutcomes}
use Rattle.coord_run.specs.Driven.{IsReady, IsRepaid, IsBack, IsDriven}
use Rattle.coord_run.specs.Books.{BooksState, state_of, IsNew}
use Rattle.coord_run.specs.Tied.{Start, Noted, Tied}
use Rattle.coord_run.proofs.PoolLemmas.{called-none, repaid-owed, repaid-free}
use Rattle.coord_run.proofs.OutcomeLemmas.{skipped-after}
use Rattle.coord_run.proofs.PaidLemmas.{paid-decided, parts-decided}
use Rattle.coord_run.proofs.EventLemmas.{spare-of}

no-member : {A : Type 0} (before after : List A) (x : A) → [] ≡ before ++ x ∷ after → ⊥
no-member [] after x e = absurd (cc)
no-member (y ∷ ys) after x e = absurd (cc)

empties-none : (free : Option (ℕ → ℕ)) → Empties free []
empties-none (Some f) = λ before after x e. absurd (no-member before after x e)
empties-none None = tt

all-at : {X : Type 0} (xs : List X) (d : X) → All (λ o. o ≡ d) xs → (i : ℕ) → slice_index_or xs i d ≡ d
all-at [] d all i = refl
all-at (x ∷ xs) d all zero = all zero d (omega arith)
all-at (x ∷ xs) d all (suc i) = all-at xs d (λ k e low. all (suc k) e (omega arith)) i

-- a pool that was not called
pub never-repaid : (p : PoolState) → IsRepaid p [] [] p
never-repaid p = record {
  called = called-none p;
  empties = empties-none p.free;
  lost_are = refl;
  owed = repaid-owed p p [] [] (called-none p) refl (λ x. refl);
  free = repaid-free p p [] [] (called-none p) refl (λ x. refl);
}

no-times : (l : List ℕ) → ((x : ℕ) → times x l ≡ 0) → l ≡ []
no-times [] h = refl
no-times (x ∷ xs) h = let z = h x in let o = one_if-same x in absurd (omega arith)

-- where the run is not finished and nothing else is out, a job is
some-job : (w n : ℕ) → w + 0 ≡ n → (n == 0 && is_none {T = ℕ} None && not false && 0 == 0) ≡ false → 1 ≤ w
some-job w zero e f = absurd (cc)
some-job w (suc n) e f = omega arith

module _ {P F : Type 0} where
  pub job-waits : (c : Start P F) (b : BooksState P F) (d : DeskState) (p : PoolState) (w : ℕ) → Tied c b [] d p w → is_finished (state_of b) ≡ false → (state_of b).gen ≡ None → (state_of b).asking ≡ false → (state_of b).giving ≡ [] → 1 ≤ w
  job-waits c b d p w h going gen asks gives =
      let n = length (state_of b).running in
      some-job w n h.paid.waits
      (subst (λ (z : List ℕ). (n == 0 && is_none {T = ℕ} None && not false && length z == 0) ≡ false) gives
      (subst (λ (z : Bool). (n == 0 && is_none {T = ℕ} None && not z && length (state_of b).giving == 0) ≡ false) asks
      (subst (λ (z : Option ℕ). (n == 0 && is_none z && not (state_of b).asking && length (state_of b).giving == 0) ≡ false) gen going)))

  pub all-shares : (m : Meaning P F) (lanes : ℕ) (d : DeskState) (share : ℕ) → IsReady m lanes d → share ≡ d.share → share ≡ d.held + 1
  all-shares m lanes d share r is = let s = r.share in let h = r.held in omega arith

  noted-none : (m : Meaning P F) (terms : Terms) (before : DeskState) (os : List (Outcome F)) → before.peak ≡ 0 → All (λ o. o ≡ Outcome-Skipped) os → Noted m terms before [] os before.peak before.seen
  noted-none m terms before os peak all = record {
    costs = search rules;
    readings = λ l after x e. absurd (no-member l after x e);
    most = omega arith;
    seen_is = seen-end before.seen;
    tells = λ x. all-at os Outcome-Skipped all x;
  }
    where
      seen-end : {A : Type 0} (l : List A) → l ≡ l ++ []
      seen-end [] = refl
      seen-end (y ∷ ys) = ap (λ t. y ∷ t) (seen-end ys)

  begin-as : (m : Meaning P F) (lanes : ℕ) (keep : Bool) (os : List (Outcome F)) (ps : List (Option P)) (d : DeskState) (p : PoolState) (w : ℕ) → IsReady m lanes d → IsAtRest d → w ≡ 0 → length os ≡ m.count → length ps ≡ m.count → All (λ o. o ≡ Outcome-Skipped) os
      → Tied (record { meaning = m; terms = terms_of m.count lanes keep; desk = d; pool = p }) (record { terms = terms_of m.count lanes keep; entries = []; outcomes = os; parts = ps; lost = []; tally = 0 }) (jobs_by (actions_of true (first (terms_of m.count lanes keep)))) d p w
  begin-as m lanes keep os ps d p w r at_rest none width part_width all =
      let f = first (terms_of m.count lanes keep) in
      let k = r.held in let s = r.share in
      record {
        table = r.table;
        sized = record { terms_are = refl; units = refl; some_lane = r.some_lane; most_lanes = r.most_lanes; most_units = r.most_units; width = width; part_width = part_width };
        lawful = tt;
        turns = tt;
        noted = noted-none m (terms_of m.count lanes keep) d os (at_rest.peak ∙ r.held) all;
        paid = paid-decided true f d w (record { held = k; share = omega arith; out = λ x. let e : times x d.out ≡ 0 = ap (times x) at_rest.out in omega arith; waits = omega arith });
        pooled = record { called = called-none p; empties = empties-none p.free; lost_are = refl };
        tally = refl;
        parts = parts-decided m ps true f (λ x low. absurd (omega arith));
      }

  books-new : (terms : Terms) (b : BooksState P F) → IsNew terms b → b ≡ record { terms = terms; entries = []; outcomes = b.outcomes; parts = b.parts; lost = []; tally = 0 }
  books-new terms b h =
      ap (λ (z : Terms). record b { terms = z }) h.terms_are
      ∙ ap (λ (z : List Entry). record b { terms = terms; entries = z }) h.entries
      ∙ ap (λ (z : List ℕ). record b { terms = terms; entries = []; lost = z }) h.lost
      ∙ ap (λ (z : ℕ). record b { terms = terms; entries = []; lost = []; tally = z }) h.tally

  pub begin-ties : (m : Meaning P F) (n lanes : ℕ) (keep : Bool) (b : BooksState P F) (d : DeskState) (p : PoolState) (w : ℕ) → IsReady m lanes d → IsAtRest d → w ≡ 0 → IsNew (terms_of n lanes keep) b → n ≡ m.count
      → Tied (record { meaning = m; terms = terms_of m.count lanes keep; desk = d; pool = p }) b (jobs_by (actions_of true (first (terms_of n lanes keep)))) d p w
  begin-ties m n lanes keep b d p w r at_rest none h is =
      let c : Start P F = record { meaning = m; terms = terms_of m.count lanes keep; desk = d; pool = p } in
      subst (λ (z : ℕ). Tied c b (jobs_by (actions_of true (first (terms_of z lanes keep)))) d p w) (sym is)
      (subst (λ (z : BooksState P F). Tied c z (jobs_by (actions_of true (first (terms_of m.count lanes keep)))) d p w) (sym (books-new (terms_of n lanes keep) b h ∙ ap (λ (k : ℕ). record { terms = terms_of k lanes keep; entries = []; outcomes = b.outcomes; parts = b.parts; lost = []; tally = 0 }) is))
      (begin-as m lanes keep b.outcomes b.parts d p w r at_rest none (h.width ∙ is) (h.part_width ∙ is) h.skipped))

  module _ (c : Start P F) (b : BooksState P F) (d : DeskState) (p : PoolState) (w : ℕ) (h : Tied c b [] d p w) (done : is_finished (state_of b) ≡ true) where
    pub end-journal : IsJournal c.meaning c.terms b.entries
    end-journal =
        let same = h.sized.terms_are in
        let es = events_of b.entries in
        record {
          lawful = subst (λ (z : Terms). Lawful z es) same h.lawful;
          finished = subst (λ (z : Terms). is_finished (run z es) ≡ true) same done;
          turns = subst (λ (z : Terms). InTurn z es) same h.turns;
          costs = h.noted.costs;
          readings = subst (λ (z : Terms). AtEach (HasReading z) b.entries) same h.noted.readings;
        }

    pub end-outcomes : AreOutcomes c.meaning c.terms.keep (events_of b.entries) b.outcomes
    end-outcomes =
        let n = h.sized.units in
        let es = events_of b.entries in
        record {
          width = h.sized.width ∙ n;
          tells = h.noted.tells;
          skipped = λ x low is.
              subst (λ (z : Terms). IsAfter (least (lowered z.keep es)) x) h.sized.terms_are
              (skipped-after c.meaning b.terms es x h.lawful done (omega arith) (subst (λ (o : Outcome F). TellsOne c.meaning x (outcomes_of x es) o) is (h.noted.tells x)));
        }

    pub end-tally : b.tally ≡ jobs_ended c.terms (events_of b.entries)
    end-tally = h.tally ∙ ap (λ (z : Terms). jobs_ended z (events_of b.entries)) h.sized.terms_are

    pub end-back : c.desk.table ≡ c.meaning.table → IsBack c.desk b.entries d
    end-back table =
        let s = state_of b in
        let out = finished_is s done in
        let pay : payers s.running ≡ 0 = ap payers out.running in
        let len : length s.running ≡ 0 = ap (λ (z : List Job). length z) out.running in
        let gl : length s.giving ≡ 0 = ap (λ (z : List ℕ). length z) out.giving in
        let sp : one_some s.spare ≡ 0 = ap one_some (spare-of c b [] d p w h) in
        let held = h.paid.held in let share = h.paid.share in
        record {
          table = h.table ∙ sym table;
          held = omega arith;
          share = omega arith;
          out = no-times d.out (λ x. let o = h.paid.out x in let q : running_at x s.running ≡ 0 = ap (running_at x) out.running in omega arith);
          seen = h.noted.seen_is;
        }

    pub end-repaid : IsRepaid c.pool (events_of b.entries) b.lost p
    end-repaid =
        let es = events_of b.entries in
        let bag = returned b.terms es h.lawful done in
        record {
          called = h.pooled.called;
          empties = h.pooled.empties;
          lost_are = h.pooled.lost_are;
          owed = repaid-owed c.pool p es b.lost h.pooled.called h.pooled.lost_are bag;
          free = repaid-free c.pool p es b.lost h.pooled.called h.pooled.lost_are bag;
        }

    pub end-driven : (r : Driven F) → r.outcomes.items ≡ b.outcomes → r.journal.items ≡ b.entries → r.lost ≡ b.lost → r.tally ≡ b.tally → c.desk.table ≡ c.meaning.table → IsDriven c.meaning c.terms c.desk c.pool r d p
    end-driven r os es ls t table =
        record {
          journal = subst (λ (l : List Entry). IsJournal c.meaning c.terms l) (sym es) end-journal;
          outcomes = subst (λ (l : List Entry). AreOutcomes c.meaning c.terms.keep (events_of l) r.outcomes.items) (sym es) (subst (λ (l : List (Outcome F)). AreOutcomes c.meaning c.terms.keep (events_of b.entries) l) (sym os) end-outcomes);
          tally = t ∙ end-tally ∙ ap (λ (l : List Entry). jobs_ended c.terms (events_of l)) (sym es);
          back = subst (λ (l : List Entry). IsBack c.desk l d) (sym es) (end-back table);
          repaid = subst (λ (l : List Entry). IsRepaid c.pool (events_of l) r.lost p) (sym es) (subst (λ (l : List ℕ). IsRepaid c.pool (events_of b.entries) l p) (sym ls) end-repaid);
        }
