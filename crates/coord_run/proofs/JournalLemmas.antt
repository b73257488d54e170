-- What the entries of a session tell, with one entry more.
use Rattle.std.proofs.Common.{◌≡◌, ℕ, ◌+◌, ◌*◌, ◌<◌, ◌≤◌, max, Bool, true, false, cond, List, [], ◌∷◌, ◌++◌, length, append_assoc, length-append, Option, Some, None, sym, refl, ap, ◌∙◌, arith}
use Rattle.std.proofs.Math.Nat.{le-max_left, le-max_right, max-le}
use Rattle.counting.specs.Count.{total}
use Rattle.counting.proofs.Count.{total-snoc}
use Rattle.lease_table.specs.declared.reading.Reading.{Reading}
use Rattle.coord_core.specs.declared.terms.Terms.{Terms}
use Rattle.coord_core.specs.declared.event.Event.{Event}
use Rattle.coord_core.specs.declared.event.Event.TheVariants.{Took, Empty, TakeFault, Generated, GenFailed, Made, MakeFailed, Wanted, Gave, GiveFault}
use Rattle.coord_core.specs.State.{State, is_gen}
use Rattle.coord_core.specs.Effect.{effect}
use Rattle.coord_core.specs.Run.{opened, step, run_from, run, is_awaited, Lawful}
use Rattle.coord_core.specs.Journal.{gather, lost_by, lost, of_give}
use Rattle.coord_core.specs.Laws.{ended_by}
use Rattle.coord_core.proofs.Budget.{few, room}
use Rattle.coord_core.proofs.Continued.{lawful-snoc}
use Rattle.coord_run.specs.declared.driven.Entry.{Entry}
use Rattle.coord_run.specs.Journal.{events_of, reading_by, readings_of, unit_of, held_in, greatest_from, greatest, IsRead, HasReading, AtEach, ended_from, jobs_ended}
use Rattle.coord_run.proofs.AtEachLemmas.{at_each-snoc}

pub append-none : {A : Type 0} (l : List A) → l ++ [] ≡ l
append-none [] = refl
append-none (x ∷ xs) = ap (λ t. x ∷ t) (append-none xs)

pub gather-snoc : {A : Type 0} (tells : A → List ℕ) (es : List A) (e : A) → gather tells (es ++ e ∷ []) ≡ gather tells es ++ tells e
gather-snoc tells [] e = append-none (tells e)
gather-snoc tells (x ∷ xs) e = ap (λ (l : List ℕ). tells x ++ l) (gather-snoc tells xs e) ∙ sym (append_assoc (tells x) (gather tells xs) (tells e))

pub readings-snoc : (es : List Entry) (x : Entry) → readings_of (es ++ x ∷ []) ≡ readings_of es ++ reading_by (unit_of x.event) x.reading
readings-snoc [] x = append-none (reading_by (unit_of x.event) x.reading)
readings-snoc (y ∷ ys) x = ap (λ (l : List (Option ℕ × Reading)). reading_by (unit_of y.event) y.reading ++ l) (readings-snoc ys x) ∙ sym (append_assoc (reading_by (unit_of y.event) y.reading) (readings_of ys) (reading_by (unit_of x.event) x.reading))

pub under-max : (low old now : ℕ) → low ≤ old → low ≤ max old now
under-max low old now h = let m = le-max_left old now in omega arith

-- the greatest number that was held does not fall, and is at least that of the last event
greatest-front : (s : State) (es : List Event) (e : Event) → greatest_from s es ≤ greatest_from s (es ++ e ∷ [])
greatest-front s [] e = omega arith
greatest-front s (x ∷ xs) e =
    let r = greatest-front (step s x) xs e in
    let here = max (held_in (effect x s)) (held_in (step s x)) in
    let a = le-max_left here (greatest_from (step s x) (xs ++ e ∷ [])) in
    let b = le-max_right here (greatest_from (step s x) (xs ++ e ∷ [])) in
    max-le a (omega arith)

greatest-last : (s : State) (es : List Event) (e : Event) → held_in (effect e (run_from s es)) ≤ greatest_from s (es ++ e ∷ [])
greatest-last s [] e =
    let a = le-max_left (held_in (effect e s)) (held_in (step s e)) in
    let b = le-max_left (max (held_in (effect e s)) (held_in (step s e))) 0 in omega arith
greatest-last s (x ∷ xs) e =
    let r = greatest-last (step s x) xs e in
    let b = le-max_right (max (held_in (effect x s)) (held_in (step s x))) (greatest_from (step s x) (xs ++ e ∷ [])) in omega arith

pub greatest-most : (terms : Terms) (es : List Event) (e : Event) (old new : ℕ) → old ≤ greatest terms es → new ≤ max old (held_in (effect e (run terms es))) → new ≤ greatest terms (es ++ e ∷ [])
greatest-most terms es e old new low le =
    let a = greatest-front (opened terms) es e in
    let b = greatest-last (opened terms) es e in
    let c : max old (held_in (effect e (run terms es))) ≤ greatest terms (es ++ e ∷ []) = max-le (omega arith) b in omega arith

read-more : (low high : ℕ) (unit : Option ℕ) (r : Option Reading) → low ≤ high → IsRead low unit r → IsRead high unit r
read-more low high (Some i) (Some r) le h = let m = h.most in record { least = h.least; bound = h.bound; most = omega arith }
read-more low high (Some i) None le h = absurd h
read-more low high None (Some r) le h = absurd h
read-more low high None None le h = tt

pub readings-more : (terms : Terms) (entries : List Entry) (x : Entry) (old : ℕ) → AtEach (HasReading terms) entries → old ≤ greatest terms (events_of entries)
    → IsRead old (unit_of x.event) x.reading → AtEach (HasReading terms) (entries ++ x ∷ [])
readings-more terms entries x old h low read =
    at_each-snoc (HasReading terms) entries x h (read-more old _ (unit_of x.event) x.reading (let g = greatest-front (opened terms) (events_of entries) x.event in omega arith) read)

-- jobs that the events end
ended-from-snoc : (s : State) (es : List Event) (e : Event) → ended_from s (es ++ e ∷ []) ≡ ended_from s es + length (ended_by e (run_from s es).gen)
ended-from-snoc s [] e = omega arith
ended-from-snoc s (x ∷ xs) e = let h = ended-from-snoc (step s x) xs e in omega arith

pub ended-snoc : (terms : Terms) (es : List Event) (e : Event) → jobs_ended terms (es ++ e ∷ []) ≡ jobs_ended terms es + length (ended_by e (run terms es).gen)
ended-snoc terms es e = ended-from-snoc (opened terms) es e

ends-one : (e : Event) (g : Option ℕ) → length (ended_by e g) ≤ 1
ends-one (Made i) g = omega arith
ends-one (MakeFailed i) g = omega arith
ends-one (Wanted i) g = by (is_gen i g)
  where
    by : (b : Bool) → length (cond b [] (i ∷ [])) ≤ 1
    by true = omega arith
    by false = omega arith
ends-one (Took b) g = omega arith
ends-one Empty g = omega arith
ends-one TakeFault g = omega arith
ends-one (Generated i c) g = omega arith
ends-one (GenFailed i) g = omega arith
ends-one (Gave b) g = omega arith
ends-one (GiveFault b) g = omega arith

ended-from-le : (s : State) (es : List Event) → ended_from s es ≤ length es
ended-from-le s [] = omega arith
ended-from-le s (e ∷ es) = let h = ended-from-le (step s e) es in let o = ends-one e s.gen in omega arith

pub ended-le : (terms : Terms) (es : List Event) → Lawful terms es → jobs_ended terms es ≤ 8 * terms.units
ended-le terms es l = let h = ended-from-le (opened terms) es in let r = room terms es l in omega arith

-- lost bytes are answers to gives
lost-one : (e : Event) → length (lost_by e) ≤ of_give e
lost-one (GiveFault b) = omega arith
lost-one (Gave b) = omega arith
lost-one (Took b) = omega arith
lost-one Empty = omega arith
lost-one TakeFault = omega arith
lost-one (Generated i c) = omega arith
lost-one (GenFailed i) = omega arith
lost-one (Made i) = omega arith
lost-one (MakeFailed i) = omega arith
lost-one (Wanted i) = omega arith

lost-le : (es : List Event) → length (lost es) ≤ total of_give es
lost-le [] = omega arith
lost-le (e ∷ es) = let h = lost-le es in let n = length-append (lost_by e) (lost es) in let o = lost-one e in omega arith

pub lost-room : (terms : Terms) (es : List Event) (byte : ℕ) → Lawful terms es → is_awaited (run terms es) (Gave byte) ≡ true → length (lost es) < 3 * terms.units
lost-room terms es byte l out =
    let f = (few terms (es ++ Gave byte ∷ []) (lawful-snoc terms es (Gave byte) l out)).gives in
    let t = total-snoc of_give es (Gave byte) in
    let h = lost-le es in omega arith
