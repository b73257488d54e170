-- Each unit has at most one outcome, and none while it is in hand.
use Rattle.std.proofs.Common.{◌≡◌, ℕ, ◌+◌, ◌<◌, ◌≤◌, eqb, min, Bool, true, false, ◌||◌, cond, List, [], ◌∷◌, length, refl, ap, arith}
use Rattle.counting.specs.Count.{one_if, times}
use Rattle.coord_core.specs.declared.terms.Terms.{Terms}
use Rattle.coord_core.specs.declared.event.Event.{Event}
use Rattle.coord_core.specs.declared.event.Event.TheVariants.{Took, Empty, TakeFault, Generated, GenFailed, Made, MakeFailed, Wanted, Gave, GiveFault}
use Rattle.coord_core.specs.State.{State, times_some, in_hand, is_gen, runs}
use Rattle.coord_core.specs.Effect.{wanted, effect}
use Rattle.coord_core.specs.Decide.{may_ask, decided, actions_of}
use Rattle.coord_core.specs.Run.{first, opened, step, run_from, run, is_awaited, LawfulFrom, Lawful}
use Rattle.coord_core.specs.Journal.{begun_by}
use Rattle.coord_core.proofs.Jobs.{gen_is, running_at-without, kept_to-fewer, kept_if-fewer}
use Rattle.coord_core.proofs.Acted.{acted}
use Rattle.coord_core.proofs.Hand.{decided-hand, begun-next, once_more, low_more, effect-fewer, effect-next}
use Rattle.coord_run.specs.Outcomes.{is_outcome_of, outcomes_of}

-- x has k outcomes and is in hand once at most in all, and only if it was reached
pub record Once (x k : ℕ) (s : State) : Type 0 where
  pub once : k + in_hand x s ≤ 1
  pub low : 1 ≤ k + in_hand x s → x < s.next

one-length : (b : Bool) (e : Event) → length (cond b (e ∷ []) []) ≡ one_if b
one-length true e = refl
one-length false e = refl

-- an outcome of a unit is of one in hand, which it leaves
outcome-leaves : (x : ℕ) (e : Event) (s : State) → is_awaited s e ≡ true → length (outcomes_of x (e ∷ [])) + in_hand x (effect e s) ≤ in_hand x s
outcome-leaves x (Took b) s out = let f = effect-fewer x (Took b) s out in let a = f.0 in let c = f.1 in omega arith
outcome-leaves x Empty s out = let f = effect-fewer x Empty s out in let a = f.0 in let c = f.1 in omega arith
outcome-leaves x TakeFault s out = let f = effect-fewer x TakeFault s out in let a = f.0 in let c = f.1 in omega arith
outcome-leaves x (Generated i c) s out = let f = effect-fewer x (Generated i c) s out in let a = f.0 in let d = f.1 in omega arith
outcome-leaves x (GenFailed i) s out =
    let l = one-length (eqb x i) (GenFailed i) in
    let g : times_some x s.gen ≡ one_if (eqb x i) = ap (times_some x) (gen_is i s.gen out) in
    let q = kept_if-fewer s.terms.keep x (min s.bar i) s.queue in omega arith
outcome-leaves x (Made i) s out = let l = one-length (eqb x i) (Made i) in let r = running_at-without x i s.running out in omega arith
outcome-leaves x (MakeFailed i) s out = let l = one-length (eqb x i) (MakeFailed i) in let r = running_at-without x i s.running out in let q = kept_if-fewer s.terms.keep x (min s.bar i) s.queue in omega arith
outcome-leaves x (Wanted i) s out = by (is_gen i s.gen) refl out
  where
    by : (t : Bool) → is_gen i s.gen ≡ t → (t || runs i s.running) ≡ true → length (outcomes_of x (Wanted i ∷ [])) + in_hand x (wanted t i s) ≤ in_hand x s
    by true is o =
        let l = one-length (eqb x i) (Wanted i) in
        let g : times_some x s.gen ≡ one_if (eqb x i) = ap (times_some x) (gen_is i s.gen is) in
        let q = kept_to-fewer x (min s.bar i) s.queue in omega arith
    by false is o = let l = one-length (eqb x i) (Wanted i) in let r = running_at-without x i s.running o in let q = kept_to-fewer x (min s.bar i) s.queue in omega arith
outcome-leaves x (Gave b) s out = let f = effect-fewer x (Gave b) s out in let a = f.0 in let c = f.1 in omega arith
outcome-leaves x (GiveFault b) s out = let f = effect-fewer x (GiveFault b) s out in let a = f.0 in let c = f.1 in omega arith

effect-once : (x k : ℕ) (e : Event) (s : State) → is_awaited s e ≡ true → Once x k s → Once x (k + length (outcomes_of x (e ∷ []))) (effect e s)
effect-once x k e s out h =
    let l = outcome-leaves x e s out in
    let n = (effect-next e s).0 in
    let o = h.once in
    record { once = omega arith; low = λ at. let b = h.low (omega arith) in omega arith }

decided-once : (x k : ℕ) (may : Bool) (s : State) → Once x k s → Once x k (decided may s)
decided-once x k may s h =
    let a = acted may s in
    let m = (actions_of may s).main in
    let b = begun-next x m s.next (λ i e. (a.begun i e).0) in
    let d = decided-hand x may s in
    let old = k + in_hand x s in
    let now = k + in_hand x (decided may s) in
    record {
      once = once_more x s.next old (times x (begun_by m)) now (omega arith) h.once h.low b.1 (λ l. (b.0 l).0);
      low = λ at. low_more x s.next old (times x (begun_by m)) now (length (begun_by m)) (decided may s).next (omega arith) at h.low b.0 a.next;
    }

outcomes-cons : (x : ℕ) (e : Event) (es : List Event) → length (outcomes_of x (e ∷ es)) ≡ length (outcomes_of x (e ∷ [])) + length (outcomes_of x es)
outcomes-cons x e es = by (is_outcome_of x e)
  where
    by : (b : Bool) → length (cond b (e ∷ outcomes_of x es) (outcomes_of x es)) ≡ length (cond b (e ∷ []) []) + length (outcomes_of x es)
    by true = omega arith
    by false = omega arith

run_from-once : (x k : ℕ) (s : State) (es : List Event) → LawfulFrom s es → Once x k s → Once x (k + length (outcomes_of x es)) (run_from s es)
run_from-once x k s [] l h = let o = h.once in record { once = omega arith; low = λ at. h.low (omega arith) }
run_from-once x k s (e ∷ es) l h =
    let r = run_from-once x (k + length (outcomes_of x (e ∷ []))) (step s e) es l.1 (decided-once x _ (may_ask e) (effect e s) (effect-once x k e s l.0 h)) in
    let c = outcomes-cons x e es in
    let o = r.once in
    record { once = omega arith; low = λ at. r.low (omega arith) }

first-once : (x : ℕ) (terms : Terms) → Once x 0 (first terms)
first-once x terms = record { once = omega arith; low = λ at. absurd (omega arith) }

run-once : (x : ℕ) (terms : Terms) (es : List Event) → Lawful terms es → Once x (length (outcomes_of x es)) (run terms es)
run-once x terms es l = let r = run_from-once x 0 (opened terms) es l (decided-once x 0 true (first terms) (first-once x terms)) in let o = r.once in record { once = omega arith; low = λ at. r.low (omega arith) }

none-long : (l : List Event) → length l ≤ 0 → l ≡ []
none-long [] h = refl
none-long (x ∷ xs) h = absurd (omega arith)

pub no-outcome : (x : ℕ) (terms : Terms) (es : List Event) → Lawful terms es → 1 ≤ in_hand x (run terms es) → outcomes_of x es ≡ []
no-outcome x terms es l at = let o = (run-once x terms es l).once in none-long (outcomes_of x es) (omega arith)
