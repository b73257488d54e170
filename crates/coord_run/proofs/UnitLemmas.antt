-- Each event of a unit keeps what ties the books, the desk and the pool.
use Rattle.std.proofs.Common.{◌≡◌, ℕ, ◌+◌, ◌<◌, ◌≤◌, eqb, Bool, true, false, List, [], ◌∷◌, length, slice_set, Option, Some, None, Ok, Err, sym, refl, ap, ◌∙◌, subst, arith}
use Rattle.std.proofs.lemmas.Bool.{eqb-true, eq-eqb}
use Rattle.std.proofs.lemmas.List.{get_or-set_same, get_or-set_other, length-set}
use Rattle.counting.specs.Count.{one_if, times}
use Rattle.atomic_table.specs.Seated.{TableId}
use Rattle.lease_table.specs.declared.reading.Reading.{Reading}
use Rattle.lease_table.specs.Reading.{IsBegun}
use Rattle.lease_table.specs.Desk.{DeskState}
use Rattle.token_pool.specs.Pool.{PoolState}
use Rattle.coord_core.specs.declared.event.Event.TheVariants.{Generated, GenFailed, Made, MakeFailed, Wanted}
use Rattle.coord_core.specs.State.{is_gen, runs}
use Rattle.coord_core.specs.Effect.{effect}
use Rattle.coord_core.specs.Decide.{actions_of}
use Rattle.coord_core.specs.Journal.{jobs_by}
use Rattle.coord_core.specs.Laws.{ended_by}
use Rattle.coord_run.specs.declared.driven.Made.TheVariants.{Made as Outcome-Made, Refused as Outcome-Refused, Wanted as Outcome-Wanted}
use Rattle.coord_run.specs.Meaning.{Meaning}
use Rattle.coord_run.specs.Journal.{events_of, held_in}
use Rattle.coord_run.specs.Turns.{GenerationTurn, JobTurn, WantedTurn}
use Rattle.coord_run.specs.Books.{BooksState, state_of, ask_first_of, part_at, fed, settled, parted, counted}
use Rattle.coord_run.specs.Tied.{Start, HasPart, Tied}
use Rattle.coord_run.proofs.Once.{no-outcome}
use Rattle.coord_run.proofs.JournalLemmas.{append-none, under-max}
use Rattle.coord_run.proofs.PoolLemmas.{no-empty}
use Rattle.coord_run.proofs.OutcomeLemmas.{tells-plain, tells-settled}
use Rattle.coord_run.proofs.PaidLemmas.{parts-told}
use Rattle.coord_run.proofs.FedLemmas.{fed-ties}
use Rattle.coord_run.proofs.EventLemmas.{or-first, or-last, is_gen-at, wanted-gen, wanted-job, lent-once, spent, spare-of, may-generate, may-collect, runs-at, gen-paid, job-paid, called-nothing}

module _ {P F : Type 0} where
  part-put : (m : Meaning P F) (ps : List (Option P)) (i : ℕ) (part : P) (cost : ℕ) → i < length ps → m.generated i ≡ Ok (part, cost) → (x : ℕ) → (times x (i ∷ []) ≡ 0 → HasPart m ps x) → HasPart m (slice_set ps i (Some part)) x
  part-put m ps i part cost low meant x h = by (eqb x i) refl
    where
      by : (t : Bool) → eqb x i ≡ t → HasPart m (slice_set ps i (Some part)) x
      by true is = let same : x ≡ i = eqb-true x i is in (part, ap (part_at (slice_set ps i (Some part))) same ∙ get_or-set_same ps i (Some part) None low, (cost, ap m.generated same ∙ meant))
      by false is = let z : one_if (eqb x i) ≡ 0 = ap one_if is in let k = h (omega arith) in (k.0, get_or-set_other ps i x (Some part) None (λ e. absurd (let z = eq-eqb x i e in cc)) ∙ k.1, k.2)

-- the events of a generation
module _ {P F : Type 0} (c : Start P F) (b : BooksState P F) (i : ℕ) (t : TableId) (r : Reading) (d : DeskState) (p : PoolState) (w : ℕ) (h : Tied c b [] d p w) (at : (state_of b).gen ≡ Some i) (turn : GenerationTurn (state_of b) (ask_first_of b)) (good : IsBegun d.peak r) (fall : (lent-once i t r d).peak ≤ d.peak) where
  pub generated-ties : (cost : ℕ) (part : P) → c.meaning.generated i ≡ Ok (part, cost) → Tied c (fed (Generated i cost) (Some r) (parted i (Some part) b)) (jobs_by (actions_of true (effect (Generated i cost) (state_of b)))) (lent-once i t r d) p w
  generated-ties cost part meant =
      let s = state_of b in let es = events_of b.entries in
      let m = may-generate c b d p w h i at in
      let n = h.sized.part_width in
      let out = is_gen-at i s at in
      fed-ties c b (Generated i cost) (Some r) b.outcomes (slice_set b.parts i (Some part)) b.lost b.tally d (lent-once i t r d) p p w w h (record {
        awaited = out;
        turn = turn;
        table = refl;
        lost_more = sym (append-none b.lost);
        paid = gen-paid c b d p w h (Generated i cost) i t r out at refl refl refl refl;
        called = called-nothing c b d p w h (Generated i cost) refl refl refl;
        empty = no-empty c.pool.free es (Generated i cost) (λ f. tt);
        cost = (part, meant);
        has = parts-told c.meaning b.parts (slice_set b.parts i (Some part)) (Generated i cost) s out (spare-of c b [] d p w h) h.parts (part-put c.meaning b.parts i part cost (let l = m.2 in omega arith) meant);
        more = omega arith;
        width = h.sized.width;
        part_width = length-set b.parts i (Some part) ∙ n;
        most = under-max _ d.peak (held_in (effect (Generated i cost) s)) fall;
        seen = refl;
        read = good;
        tells = tells-plain c.meaning es (Generated i cost) b.outcomes (λ y. refl) h.noted.tells;
      })

  pub gen_failed-ties : (f : F) → c.meaning.generated i ≡ Err f → Tied c (fed (GenFailed i) (Some r) (settled i (Outcome-Refused f) b)) (jobs_by (actions_of true (effect (GenFailed i) (state_of b)))) (lent-once i t r d) p w
  gen_failed-ties f meant =
      let s = state_of b in let es = events_of b.entries in
      let m = may-generate c b d p w h i at in
      let n = h.sized.width in
      let out = is_gen-at i s at in
      fed-ties c b (GenFailed i) (Some r) (slice_set b.outcomes i (Outcome-Refused f)) b.parts b.lost b.tally d (lent-once i t r d) p p w w h (record {
        awaited = out;
        turn = turn;
        table = refl;
        lost_more = sym (append-none b.lost);
        paid = gen-paid c b d p w h (GenFailed i) i t r out at refl refl refl refl;
        called = called-nothing c b d p w h (GenFailed i) refl refl refl;
        empty = no-empty c.pool.free es (GenFailed i) (λ f. tt);
        cost = tt;
        has = parts-told c.meaning b.parts b.parts (GenFailed i) s out (spare-of c b [] d p w h) h.parts (λ y has. has refl);
        more = omega arith;
        width = length-set b.outcomes i (Outcome-Refused f) ∙ n;
        part_width = h.sized.part_width;
        most = under-max _ d.peak (held_in (effect (GenFailed i) s)) fall;
        seen = refl;
        read = good;
        tells = tells-settled c.meaning es (GenFailed i) i b.outcomes (Outcome-Refused f) (λ y. refl) (no-outcome i b.terms es h.lawful m.3) (let l = m.2 in omega arith) meant h.noted.tells;
      })

  pub gen_wanted-ties : Tied c (fed (Wanted i) (Some r) (settled i Outcome-Wanted b)) (jobs_by (actions_of true (effect (Wanted i) (state_of b)))) (lent-once i t r d) p w
  gen_wanted-ties =
      let s = state_of b in let es = events_of b.entries in
      let m = may-generate c b d p w h i at in
      let n = h.sized.width in
      let out = or-first (is_gen i s.gen) (runs i s.running) (is_gen-at i s at) in
      let ends : length (ended_by (Wanted i) s.gen) ≡ 0 = ap (λ (z : List ℕ). length z) (wanted-gen i s.gen at) in
      fed-ties c b (Wanted i) (Some r) (slice_set b.outcomes i Outcome-Wanted) b.parts b.lost b.tally d (lent-once i t r d) p p w w h (record {
        awaited = out;
        turn = subst (λ (z : Bool). WantedTurn z s (ask_first_of b)) (sym (is_gen-at i s at)) turn;
        table = refl;
        lost_more = sym (append-none b.lost);
        paid = gen-paid c b d p w h (Wanted i) i t r out at refl refl refl (wanted-gen i s.gen at);
        called = called-nothing c b d p w h (Wanted i) refl refl refl;
        empty = no-empty c.pool.free es (Wanted i) (λ f. tt);
        cost = tt;
        has = parts-told c.meaning b.parts b.parts (Wanted i) s out (spare-of c b [] d p w h) h.parts (λ y has. has refl);
        more = omega arith;
        width = length-set b.outcomes i Outcome-Wanted ∙ n;
        part_width = h.sized.part_width;
        most = under-max _ d.peak (held_in (effect (Wanted i) s)) fall;
        seen = refl;
        read = good;
        tells = tells-settled c.meaning es (Wanted i) i b.outcomes Outcome-Wanted (λ y. refl) (no-outcome i b.terms es h.lawful m.3) (let l = m.2 in omega arith) tt h.noted.tells;
      })

-- the events of a job
module _ {P F : Type 0} (c : Start P F) (b : BooksState P F) (i makes : ℕ) (t : TableId) (r : Reading) (d : DeskState) (p : PoolState) (w w' : ℕ) (h : Tied c b [] d p w) (at : times i d.out ≡ 1) (turn : JobTurn (state_of b)) (once : makes ≡ 1) (less : w' + 1 ≡ w) (good : IsBegun d.peak r) (fall : (spent i t r d).peak ≤ d.peak) where
  pub made-ties : (bytes : List ℕ) → c.meaning.made i ≡ Ok bytes → Tied c (fed (Made i) (Some r) (settled i (Outcome-Made bytes) (counted makes b))) (jobs_by (actions_of true (effect (Made i) (state_of b)))) (spent i t r d) p w'
  made-ties bytes meant =
      let s = state_of b in let es = events_of b.entries in
      let m = may-collect c b d p w h i at in
      let n = h.sized.width in
      let out = runs-at c b d p w h i at in
      fed-ties c b (Made i) (Some r) (slice_set b.outcomes i (Outcome-Made bytes)) b.parts b.lost (b.tally + makes) d (spent i t r d) p p w w' h (record {
        awaited = out;
        turn = turn;
        table = refl;
        lost_more = sym (append-none b.lost);
        paid = job-paid c b d p w h (Made i) i t r w' out at less refl refl refl refl;
        called = called-nothing c b d p w h (Made i) refl refl refl;
        empty = no-empty c.pool.free es (Made i) (λ f. tt);
        cost = tt;
        has = parts-told c.meaning b.parts b.parts (Made i) s out (spare-of c b [] d p w h) h.parts (λ y has. has refl);
        more = ap (λ (k : ℕ). b.tally + k) once;
        width = length-set b.outcomes i (Outcome-Made bytes) ∙ n;
        part_width = h.sized.part_width;
        most = under-max _ d.peak (held_in (effect (Made i) s)) fall;
        seen = refl;
        read = good;
        tells = tells-settled c.meaning es (Made i) i b.outcomes (Outcome-Made bytes) (λ y. refl) (no-outcome i b.terms es h.lawful m.2) (let l = m.1 in omega arith) meant h.noted.tells;
      })

  pub make_failed-ties : (f : F) → c.meaning.made i ≡ Err f → Tied c (fed (MakeFailed i) (Some r) (settled i (Outcome-Refused f) (counted makes b))) (jobs_by (actions_of true (effect (MakeFailed i) (state_of b)))) (spent i t r d) p w'
  make_failed-ties f meant =
      let s = state_of b in let es = events_of b.entries in
      let m = may-collect c b d p w h i at in
      let n = h.sized.width in
      let out = runs-at c b d p w h i at in
      fed-ties c b (MakeFailed i) (Some r) (slice_set b.outcomes i (Outcome-Refused f)) b.parts b.lost (b.tally + makes) d (spent i t r d) p p w w' h (record {
        awaited = out;
        turn = turn;
        table = refl;
        lost_more = sym (append-none b.lost);
        paid = job-paid c b d p w h (MakeFailed i) i t r w' out at less refl refl refl refl;
        called = called-nothing c b d p w h (MakeFailed i) refl refl refl;
        empty = no-empty c.pool.free es (MakeFailed i) (λ f. tt);
        cost = tt;
        has = parts-told c.meaning b.parts b.parts (MakeFailed i) s out (spare-of c b [] d p w h) h.parts (λ y has. has refl);
        more = ap (λ (k : ℕ). b.tally + k) once;
        width = length-set b.outcomes i (Outcome-Refused f) ∙ n;
        part_width = h.sized.part_width;
        most = under-max _ d.peak (held_in (effect (MakeFailed i) s)) fall;
        seen = refl;
        read = good;
        tells = tells-settled c.meaning es (MakeFailed i) i b.outcomes (Outcome-Refused f) (λ y. refl) (no-outcome i b.terms es h.lawful m.2) (let l = m.1 in omega arith) meant h.noted.tells;
      })

  pub make_wanted-ties : Tied c (fed (Wanted i) (Some r) (settled i Outcome-Wanted (counted makes b))) (jobs_by (actions_of true (effect (Wanted i) (state_of b)))) (spent i t r d) p w'
  make_wanted-ties =
      let s = state_of b in let es = events_of b.entries in
      let m = may-collect c b d p w h i at in
      let n = h.sized.width in
      let out = or-last (is_gen i s.gen) (runs i s.running) (runs-at c b d p w h i at) in
      let ends : length (ended_by (Wanted i) s.gen) ≡ 1 = ap (λ (z : List ℕ). length z) (wanted-job i s.gen turn.1) in
      fed-ties c b (Wanted i) (Some r) (slice_set b.outcomes i Outcome-Wanted) b.parts b.lost (b.tally + makes) d (spent i t r d) p p w w' h (record {
        awaited = out;
        turn = subst (λ (z : Option ℕ). WantedTurn (is_gen i z) s (ask_first_of b)) (sym turn.1) turn;
        table = refl;
        lost_more = sym (append-none b.lost);
        paid = job-paid c b d p w h (Wanted i) i t r w' out at less refl refl refl (wanted-job i s.gen turn.1);
        called = called-nothing c b d p w h (Wanted i) refl refl refl;
        empty = no-empty c.pool.free es (Wanted i) (λ f. tt);
        cost = tt;
        has = parts-told c.meaning b.parts b.parts (Wanted i) s out (spare-of c b [] d p w h) h.parts (λ y has. has refl);
        more = omega arith;
        width = length-set b.outcomes i Outcome-Wanted ∙ n;
        part_width = h.sized.part_width;
        most = under-max _ d.peak (held_in (effect (Wanted i) s)) fall;
        seen = refl;
        read = good;
        tells = tells-settled c.meaning es (Wanted i) i b.outcomes Outcome-Wanted (λ y. refl) (no-outcome i b.terms es h.lawful m.2) (let l = m.1 in omega arith) tt h.noted.tells;
      })
