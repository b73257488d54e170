-- Each event of a session keeps what ties the books, the desk and the pool.
use Rattle.std.proofs.Common.{◌≡◌, ℕ, ◌+◌, ◌*◌, ◌<◌, ◌≤◌, max, eqb, Bool, true, false, cond, ◌||◌, is_none, List, [], ◌∷◌, ◌++◌, length, Option, Some, None, sym, refl, ap, ◌∙◌, subst, arith}
use Rattle.std.proofs.lemmas.Bool.{eqb-true, eq-eqb}
use Rattle.std.proofs.Math.Nat.{le-max_left}
use Rattle.counting.specs.Count.{one_if, times}
use Rattle.counting.proofs.Count.{one_if-same}
use Rattle.atomic_table.specs.Seated.{TableId}
use Rattle.lease_table.specs.declared.reading.Reading.{Reading}
use Rattle.lease_table.specs.Desk.{DeskState, after_took, after_gave, after_lend, after_spend}
use Rattle.token_pool.specs.Pool.{PoolState, Dealt, NoneFree, no_byte, one_byte}
use Rattle.coord_core.specs.declared.event.Event.{Event}
use Rattle.coord_core.specs.declared.event.Event.TheVariants.{Took, Empty, TakeFault, Wanted, Gave, GiveFault}
use Rattle.coord_core.specs.State.{State, one_some, times_some, running_at, in_hand, is_gen, runs, has_byte}
use Rattle.coord_core.specs.Effect.{effect}
use Rattle.coord_core.specs.declared.job.Job.{Job}
use Rattle.coord_core.specs.Decide.{actions_of}
use Rattle.coord_core.specs.Run.{is_awaited}
use Rattle.coord_core.specs.Journal.{took_by, gave_by, lost_by, lost, jobs_by}
use Rattle.coord_core.specs.Laws.{Bounded, InHand, ended_by}
use Rattle.coord_core.proofs.Sound.{bounded_by, run-sound, run-spare}
use Rattle.coord_core.proofs.Hand.{in_hand_at}
use Rattle.coord_core.proofs.Bag.{bag}
use Rattle.coord_run.specs.Journal.{events_of, held_in, of_fault}
use Rattle.coord_run.specs.Books.{BooksState, state_of, ask_first_of, fed, losing}
use Rattle.coord_run.specs.Tied.{Start, Paid, Tied}
use Rattle.coord_run.proofs.JournalLemmas.{append-none, under-max, ended-le, lost-room}
use Rattle.coord_run.proofs.PoolLemmas.{CalledBy, dealt-as, called-none, no-empty, empty-now}
use Rattle.coord_run.proofs.OutcomeLemmas.{tells-plain}
use Rattle.coord_run.proofs.PaidLemmas.{paid-told, lent-back, came-back, parts-told}
use Rattle.coord_run.proofs.FedLemmas.{fed-ties}

same-number : (x : ℕ) → eqb x x ≡ true
same-number x = eq-eqb x x refl

pub or-first : (a b : Bool) → a ≡ true → (a || b) ≡ true
or-first a b e = ap (λ (z : Bool). z || b) e

pub or-last : (a b : Bool) → b ≡ true → (a || b) ≡ true
or-last true b e = refl
or-last false b e = e

-- the byte that is being given is awaited
gives-at : (x : ℕ) (s : State) → s.giving ≡ x ∷ [] → has_byte x s.giving ≡ true
gives-at x s at = ap (has_byte x) at ∙ or-first (eqb x x) _ (same-number x)

pub is_gen-at : (i : ℕ) (s : State) → s.gen ≡ Some i → is_gen i s.gen ≡ true
is_gen-at i s at = ap (is_gen i) at ∙ same-number i

-- a unit that runs is awaited
runs-of : (i : ℕ) (js : List Job) → 1 ≤ running_at i js → runs i js ≡ true
runs-of i [] h = absurd (omega arith)
runs-of i (j ∷ js) h = by (eqb i j.unit) refl (runs-of i js) h
  where
    by : (t : Bool) → eqb i j.unit ≡ t → (1 ≤ running_at i js → runs i js ≡ true) → 1 ≤ one_if t + running_at i js → (eqb j.unit i || runs i js) ≡ true
    by true is r l = or-first (eqb j.unit i) (runs i js) (eq-eqb j.unit i (sym (eqb-true i j.unit is)))
    by false is r l = or-last (eqb j.unit i) (runs i js) (r (omega arith))

pub wanted-gen : (i : ℕ) (g : Option ℕ) → g ≡ Some i → ended_by (Wanted i) g ≡ []
wanted-gen i g at = ap (ended_by (Wanted i)) at ∙ ap (λ (b : Bool). cond b [] (i ∷ [])) (same-number i)

pub wanted-job : (i : ℕ) (g : Option ℕ) → g ≡ None → ended_by (Wanted i) g ≡ i ∷ []
wanted-job i g at = ap (ended_by (Wanted i)) at

-- a lease for unit i that is lent and comes back, and one that comes back
abbrev pub lent-once : ℕ → TableId → Reading → DeskState → DeskState
lent-once i t r d = after_spend (record { table = t; job = Some i; last = Some r }) (after_lend (Some i) d)

abbrev pub spent : ℕ → TableId → Reading → DeskState → DeskState
spent i t r d = after_spend (record { table = t; job = Some i; last = Some r }) d

module _ {P F : Type 0} (c : Start P F) (b : BooksState P F) (due : List ℕ) (d : DeskState) (p : PoolState) (w : ℕ) (h : Tied c b due d p w) where
  pub bound-of : Bounded b.terms.lanes (state_of b)
  bound-of = bounded_by b.terms.lanes (state_of b) (run-sound b.terms (events_of b.entries) h.sized.some_lane h.lawful)

  pub spare-of : (state_of b).spare ≡ None
  spare-of = run-spare b.terms (events_of b.entries)

  pub hand-of : InHand b.terms.units (state_of b)
  hand-of = in_hand_at b.terms (events_of b.entries) h.lawful

-- what the calls before an event require
module _ {P F : Type 0} (c : Start P F) (b : BooksState P F) (d : DeskState) (p : PoolState) (w : ℕ) (h : Tied c b [] d p w) where
  pub may-take : (state_of b).asking ≡ true → (state_of b).giving ≡ [] → d.held < 63
  may-take asks none =
      let k = (bound-of c b [] d p w h).held in
      let a : one_if (state_of b).asking ≡ 1 = ap one_if asks in
      let l : length (state_of b).giving ≡ 0 = ap (λ (z : List ℕ). length z) none in
      let m = h.sized.most_lanes in let e = h.paid.held in omega arith

  pub may-give : (x : ℕ) → (state_of b).giving ≡ x ∷ [] → (1 ≤ d.held) × (1 ≤ d.share) × (1 ≤ p.owed x)
  may-give x at =
      let o = (bound-of c b [] d p w h).out in
      let l : length (state_of b).giving ≡ 1 = ap (λ (z : List ℕ). length z) at in
      let e = h.paid.held in let s = h.paid.share in
      let u = h.pooled.called.owed x in
      let g = bag b.terms (events_of b.entries) h.lawful x in
      let t : times x (state_of b).giving ≡ one_if (eqb x x) + 0 = ap (times x) at in
      let v = one_if-same x in
      (omega arith, omega arith, omega arith)

  pub may-lose : (x : ℕ) → (state_of b).giving ≡ x ∷ [] → length b.lost < 3 * b.terms.units
  may-lose x at =
      let r = lost-room b.terms (events_of b.entries) x h.lawful (gives-at x (state_of b) at) in
      let l : length b.lost ≡ length (lost (events_of b.entries)) = ap (λ (z : List ℕ). length z) h.pooled.lost_are in omega arith

  pub may-generate : (i : ℕ) → (state_of b).gen ≡ Some i → (1 ≤ d.share) × (times i d.out ≡ 0) × (i < b.terms.units) × (1 ≤ in_hand i (state_of b))
  may-generate i at =
      let s = state_of b in
      let o = (bound-of c b [] d p w h).out in
      let g : one_some s.gen ≡ 1 = ap one_some at in
      let z = hand-of c b [] d p w h in
      let u = z.once i in let m = z.most in
      let y : times_some i s.gen ≡ one_if (eqb i i) = ap (times_some i) at in
      let x = one_if-same i in
      let e = h.paid.held in let q = h.paid.share in let r = h.paid.out i in
      let in_hand_i : 1 ≤ in_hand i s = omega arith in
      let n = z.below i in_hand_i in
      (omega arith, omega arith, omega arith, in_hand_i)

  pub may-collect : (i : ℕ) → times i d.out ≡ 1 → (1 ≤ running_at i (state_of b).running) × (i < b.terms.units) × (1 ≤ in_hand i (state_of b)) × (b.tally + 1 < 18446744073709551616)
  may-collect i out =
      let o = h.paid.out i in
      let z = hand-of c b [] d p w h in
      let m = z.most in
      let in_hand_i : 1 ≤ in_hand i (state_of b) = omega arith in
      let n = z.below i in_hand_i in
      let t = h.tally in let l = ended-le b.terms (events_of b.entries) h.lawful in let u = h.sized.most_units in
      (omega arith, omega arith, in_hand_i, omega arith)

  pub runs-at : (i : ℕ) → times i d.out ≡ 1 → runs i (state_of b).running ≡ true
  runs-at i out = runs-of i (state_of b).running (may-collect i out).0

  pub gen-paid : (e : Event) (i : ℕ) (t : TableId) (r : Reading) → is_awaited (state_of b) e ≡ true → (state_of b).gen ≡ Some i → took_by e ≡ [] → gave_by e ≡ [] → lost_by e ≡ [] → ended_by e (state_of b).gen ≡ [] → Paid (effect e (state_of b)) [] (lent-once i t r d) w
  gen-paid e i t r out at took gave lost ends =
      let m = may-generate i at in
      let share = m.0 in
      let a : length (took_by e) ≡ 0 = ap (λ (z : List ℕ). length z) took in
      let g : length (gave_by e) ≡ 0 = ap (λ (z : List ℕ). length z) gave in
      let l : length (lost_by e) ≡ 0 = ap (λ (z : List ℕ). length z) lost in
      let n : length (ended_by e (state_of b).gen) ≡ 0 = ap (λ (z : List ℕ). length z) ends in
      paid-told e (state_of b) d (lent-once i t r d) w w out (spare-of c b [] d p w h) h.paid (omega arith) (omega arith)
      (λ x. let k = lent-back x i d.out in let y : times x (ended_by e (state_of b).gen) ≡ 0 = ap (times x) ends in omega arith) (omega arith)

  pub job-paid : (e : Event) (i : ℕ) (t : TableId) (r : Reading) (w' : ℕ) → is_awaited (state_of b) e ≡ true → times i d.out ≡ 1 → w' + 1 ≡ w → took_by e ≡ [] → gave_by e ≡ [] → lost_by e ≡ [] → ended_by e (state_of b).gen ≡ i ∷ [] → Paid (effect e (state_of b)) [] (spent i t r d) w'
  job-paid e i t r w' out at less took gave lost ends =
      let a : length (took_by e) ≡ 0 = ap (λ (z : List ℕ). length z) took in
      let g : length (gave_by e) ≡ 0 = ap (λ (z : List ℕ). length z) gave in
      let l : length (lost_by e) ≡ 0 = ap (λ (z : List ℕ). length z) lost in
      let n : length (ended_by e (state_of b).gen) ≡ 1 = ap (λ (z : List ℕ). length z) ends in
      paid-told e (state_of b) d (spent i t r d) w w' out (spare-of c b [] d p w h) h.paid (omega arith) (omega arith)
      (λ x. let k = came-back x i d.out at in let y : times x (ended_by e (state_of b).gen) ≡ times x (i ∷ []) = ap (times x) ends in omega arith) (omega arith)

  pub called-nothing : (e : Event) → took_by e ≡ [] → gave_by e ≡ [] → of_fault e ≡ 0 → CalledBy p e p
  called-nothing e took gave fault =
      let none = called-none p in
      subst (λ (k : ℕ). Dealt p (λ x. times x (took_by e)) (λ x. times x (gave_by e)) (length (took_by e)) k p) (sym fault)
      (subst (λ (k : ℕ). Dealt p (λ x. times x (took_by e)) (λ x. times x (gave_by e)) k 0 p) (sym (ap (λ (z : List ℕ). length z) took))
      (dealt-as p p (λ x. 0) (λ x. 0) (λ x. times x (took_by e)) (λ x. times x (gave_by e)) 0 0 (λ x. ap (times x) took) (λ x. ap (times x) gave) none))

-- the events of the pool
module _ {P F : Type 0} (c : Start P F) (b : BooksState P F) (d : DeskState) (p : PoolState) (w : ℕ) (h : Tied c b [] d p w) where
  pub took-ties : (x : ℕ) (p' : PoolState) → (state_of b).asking ≡ true → (state_of b).giving ≡ [] → (is_none (state_of b).gen || ask_first_of b) ≡ true → Dealt p (one_byte x) no_byte 1 0 p'
      → Tied c (fed (Took x) None b) (jobs_by (actions_of true (effect (Took x) (state_of b)))) (after_took d) p' w
  took-ties x p' asks none older dealt =
      let s = state_of b in
      let nothing : length s.giving ≡ 0 = ap (λ (z : List ℕ). length z) none in
      let spare = spare-of c b [] d p w h in
      let z : one_some s.spare ≡ 0 = ap one_some spare in
      let k = h.paid.held in
      fed-ties c b (Took x) None b.outcomes b.parts b.lost b.tally d (after_took d) p p' w w h (record {
        awaited = asks;
        turn = (none, older);
        table = refl;
        lost_more = sym (append-none b.lost);
        paid = paid-told (Took x) s d (after_took d) w w asks spare h.paid (omega arith) (omega arith) (λ y. omega arith) (omega arith);
        called = dealt-as p p' (one_byte x) no_byte (λ y. times y (x ∷ [])) (λ y. times y []) 1 0 (λ y. omega arith) (λ y. refl) dealt;
        empty = no-empty c.pool.free (events_of b.entries) (Took x) (λ f. tt);
        cost = tt;
        has = parts-told c.meaning b.parts b.parts (Took x) s asks spare h.parts (λ y has. has refl);
        more = omega arith;
        width = h.sized.width;
        part_width = h.sized.part_width;
        most = let e : held_in (effect (Took x) s) ≡ d.held + 1 = omega arith in subst (λ (m : ℕ). max d.peak (d.held + 1) ≤ max d.peak m) (sym e) (omega arith);
        seen = sym (append-none d.seen);
        read = tt;
        tells = tells-plain c.meaning (events_of b.entries) (Took x) b.outcomes (λ y. refl) h.noted.tells;
      })

  pub empty-ties : (p' : PoolState) → (state_of b).asking ≡ true → (state_of b).giving ≡ [] → (is_none (state_of b).gen || ask_first_of b) ≡ true → Dealt p no_byte no_byte 0 0 p' → NoneFree p.free
      → Tied c (fed Empty None b) (jobs_by (actions_of false (effect Empty (state_of b)))) d p' w
  empty-ties p' asks given older dealt none =
      let spare = spare-of c b [] d p w h in
      fed-ties c b Empty None b.outcomes b.parts b.lost b.tally d d p p' w w h (record {
        awaited = asks;
        turn = (given, older);
        table = refl;
        lost_more = sym (append-none b.lost);
        paid = paid-told Empty (state_of b) d d w w asks spare h.paid (omega arith) (omega arith) (λ y. omega arith) (omega arith);
        called = dealt-as p p' no_byte no_byte (λ y. times y []) (λ y. times y []) 0 0 (λ y. refl) (λ y. refl) dealt;
        empty = empty-now c.pool p (events_of b.entries) h.pooled.called none;
        cost = tt;
        has = parts-told c.meaning b.parts b.parts Empty (state_of b) asks spare h.parts (λ y has. has refl);
        more = omega arith;
        width = h.sized.width;
        part_width = h.sized.part_width;
        most = le-max_left d.peak (held_in (effect Empty (state_of b)));
        seen = sym (append-none d.seen);
        read = tt;
        tells = tells-plain c.meaning (events_of b.entries) Empty b.outcomes (λ y. refl) h.noted.tells;
      })

  pub fault-ties : (p' : PoolState) → (state_of b).asking ≡ true → (state_of b).giving ≡ [] → (is_none (state_of b).gen || ask_first_of b) ≡ true → Dealt p no_byte no_byte 0 1 p'
      → Tied c (fed TakeFault None b) (jobs_by (actions_of false (effect TakeFault (state_of b)))) d p' w
  fault-ties p' asks given older dealt =
      let spare = spare-of c b [] d p w h in
      fed-ties c b TakeFault None b.outcomes b.parts b.lost b.tally d d p p' w w h (record {
        awaited = asks;
        turn = (given, older);
        table = refl;
        lost_more = sym (append-none b.lost);
        paid = paid-told TakeFault (state_of b) d d w w asks spare h.paid (omega arith) (omega arith) (λ y. omega arith) (omega arith);
        called = dealt-as p p' no_byte no_byte (λ y. times y []) (λ y. times y []) 0 1 (λ y. refl) (λ y. refl) dealt;
        empty = no-empty c.pool.free (events_of b.entries) TakeFault (λ f. tt);
        cost = tt;
        has = parts-told c.meaning b.parts b.parts TakeFault (state_of b) asks spare h.parts (λ y has. has refl);
        more = omega arith;
        width = h.sized.width;
        part_width = h.sized.part_width;
        most = le-max_left d.peak (held_in (effect TakeFault (state_of b)));
        seen = sym (append-none d.seen);
        read = tt;
        tells = tells-plain c.meaning (events_of b.entries) TakeFault b.outcomes (λ y. refl) h.noted.tells;
      })

  pub gave-ties : (x : ℕ) (p' : PoolState) → (state_of b).giving ≡ x ∷ [] → (after_gave d).peak ≤ d.peak → Dealt p no_byte (one_byte x) 0 0 p'
      → Tied c (fed (Gave x) None b) (jobs_by (actions_of false (effect (Gave x) (state_of b)))) (after_gave d) p' w
  gave-ties x p' at fall dealt =
      let spare = spare-of c b [] d p w h in
      let out = gives-at x (state_of b) at in
      let m = may-give c b d p w h x at in
      let m0 = m.0 in let m1 = m.1 in
      fed-ties c b (Gave x) None b.outcomes b.parts b.lost b.tally d (after_gave d) p p' w w h (record {
        awaited = out;
        turn = tt;
        table = refl;
        lost_more = sym (append-none b.lost);
        paid = paid-told (Gave x) (state_of b) d (after_gave d) w w out spare h.paid (omega arith) (omega arith) (λ y. omega arith) (omega arith);
        called = dealt-as p p' no_byte (one_byte x) (λ y. times y []) (λ y. times y (x ∷ [])) 0 0 (λ y. refl) (λ y. omega arith) dealt;
        empty = no-empty c.pool.free (events_of b.entries) (Gave x) (λ f. tt);
        cost = tt;
        has = parts-told c.meaning b.parts b.parts (Gave x) (state_of b) out spare h.parts (λ y has. has refl);
        more = omega arith;
        width = h.sized.width;
        part_width = h.sized.part_width;
        most = under-max _ d.peak (held_in (effect (Gave x) (state_of b))) fall;
        seen = sym (append-none d.seen);
        read = tt;
        tells = tells-plain c.meaning (events_of b.entries) (Gave x) b.outcomes (λ y. refl) h.noted.tells;
      })

  pub give_fault-ties : (x : ℕ) (p' : PoolState) → (state_of b).giving ≡ x ∷ [] → (after_gave d).peak ≤ d.peak → Dealt p no_byte no_byte 0 1 p'
      → Tied c (fed (GiveFault x) None (losing x b)) (jobs_by (actions_of false (effect (GiveFault x) (state_of b)))) (after_gave d) p' w
  give_fault-ties x p' at fall dealt =
      let spare = spare-of c b [] d p w h in
      let out = gives-at x (state_of b) at in
      let m = may-give c b d p w h x at in
      let m0 = m.0 in let m1 = m.1 in
      fed-ties c b (GiveFault x) None b.outcomes b.parts (b.lost ++ x ∷ []) b.tally d (after_gave d) p p' w w h (record {
        awaited = out;
        turn = tt;
        table = refl;
        lost_more = refl;
        paid = paid-told (GiveFault x) (state_of b) d (after_gave d) w w out spare h.paid (omega arith) (omega arith) (λ y. omega arith) (omega arith);
        called = dealt-as p p' no_byte no_byte (λ y. times y []) (λ y. times y []) 0 1 (λ y. refl) (λ y. refl) dealt;
        empty = no-empty c.pool.free (events_of b.entries) (GiveFault x) (λ f. tt);
        cost = tt;
        has = parts-told c.meaning b.parts b.parts (GiveFault x) (state_of b) out spare h.parts (λ y has. has refl);
        more = omega arith;
        width = h.sized.width;
        part_width = h.sized.part_width;
        most = under-max _ d.peak (held_in (effect (GiveFault x) (state_of b))) fall;
        seen = sym (append-none d.seen);
        read = tt;
        tells = tells-plain c.meaning (events_of b.entries) (GiveFault x) b.outcomes (λ y. refl) h.noted.tells;
      })
