-- No unit is twice in hand, and each in hand was generated or is being so.
use Rattle.std.proofs.Common.{◌≡◌, ℕ, zero, suc, ◌+◌, ◌<◌, ◌≤◌, eqb, ltb, min, Bool, true, false, ◌||◌, cond, List, [], ◌∷◌, length, Option, None, refl, ap, ◌∙◌, arith}
use Rattle.std.proofs.lemmas.Bool.{eqb-true}
use Rattle.counting.specs.Count.{one_if, times}
use Rattle.coord_core.specs.declared.event.Event.{Event}
use Rattle.coord_core.specs.declared.event.Event.TheVariants.{Took, Empty, TakeFault, Generated, GenFailed, Made, MakeFailed, Wanted, Gave, GiveFault}
use Rattle.coord_core.specs.declared.event.Main.{Main}
use Rattle.coord_core.specs.declared.event.Main.TheVariants.{Idle, Generate, Lend}
use Rattle.coord_core.specs.declared.terms.Terms.{Terms}
use Rattle.coord_core.specs.State.{State, times_some, queued_at, running_at, in_hand, is_gen, runs, placed}
use Rattle.coord_core.specs.Effect.{wanted, effect}
use Rattle.coord_core.specs.Decide.{may_ask, decided, actions_of}
use Rattle.coord_core.specs.Run.{first, opened, step, run_from, run, is_awaited, LawfulFrom, Lawful}
use Rattle.coord_core.specs.Journal.{begun_by}
use Rattle.coord_core.specs.Laws.{InHand, gen_or}
use Rattle.coord_core.proofs.Jobs.{gen_is, running_at-without, queued_at-placed, kept_to-fewer, kept_if-fewer}
use Rattle.coord_core.proofs.Acted.{acted, units_are}

pub record Held (n : ℕ) (s : State) : Type 0 where
  pub units : s.terms.units ≡ n
  pub next : s.next ≤ n
  pub once : (x : ℕ) → in_hand x s ≤ 1
  pub low : (x : ℕ) → 1 ≤ in_hand x s → x < s.next

-- x is in hand as often as before, and once more where it is begun
pub gen_or-times : (x : ℕ) (m : Main) (g : Option ℕ) → ((i : ℕ) → m ≡ Generate i → g ≡ None) → times_some x (gen_or m g) ≡ times_some x g + times x (begun_by m)
gen_or-times x Idle g h = omega arith
gen_or-times x (Lend i) g h = omega arith
gen_or-times x (Generate i) g h = let e : times_some x g ≡ 0 = ap (times_some x) (h i refl) in omega arith

pub decided-hand : (x : ℕ) (may : Bool) (s : State) → in_hand x (decided may s) ≡ in_hand x s + times x (begun_by (actions_of may s).main)
decided-hand x may s =
    let a = acted may s in
    let m = (actions_of may s).main in
    let g : times_some x (decided may s).gen ≡ times_some x (gen_or m s.gen) = ap (times_some x) a.gen in
    let o = gen_or-times x m s.gen (λ i e. (a.begun i e).1) in
    let q = a.queue x in let r = a.running x in omega arith

-- what is begun is the next unit, and one more is generated then
pub begun-next : (x : ℕ) (m : Main) (next : ℕ) → ((i : ℕ) → m ≡ Generate i → i ≡ next) → (1 ≤ times x (begun_by m) → (x ≡ next) × (length (begun_by m) ≡ 1)) × (times x (begun_by m) ≤ 1)
begun-next x Idle next h = (λ a. absurd (omega arith), omega arith)
begun-next x (Lend i) next h = (λ a. absurd (omega arith), omega arith)
begun-next x (Generate i) next h = by (eqb x i) refl
  where
    by : (t : Bool) → eqb x i ≡ t → (1 ≤ times x (i ∷ []) → (x ≡ next) × (length (begun_by (Generate i)) ≡ 1)) × (times x (i ∷ []) ≤ 1)
    by true is = let e = h i refl in let f = eqb-true x i is in let v : one_if (eqb x i) ≡ 1 = ap one_if is in (λ a. (omega arith, refl), omega arith)
    by false is = let v : one_if (eqb x i) ≡ 0 = ap one_if is in (λ a. absurd (omega arith), omega arith)

begun-most : (m : Main) (next units : ℕ) → ((i : ℕ) → m ≡ Generate i → (i ≡ next) × (i < units)) → next ≤ units → next + length (begun_by m) ≤ units
begun-most Idle next units h l = omega arith
begun-most (Lend i) next units h l = omega arith
begun-most (Generate i) next units h l = let e = h i refl in let a = e.0 in let b = e.1 in omega arith

-- what was there once at most, of units below next, with what is begun
pub once_more : (x next old more now : ℕ) → now ≡ old + more → old ≤ 1 → (1 ≤ old → x < next) → more ≤ 1 → (1 ≤ more → x ≡ next) → now ≤ 1
once_more x next zero more now e o l m is = omega arith
once_more x next (suc old) zero now e o l m is = omega arith
once_more x next (suc old) (suc more) now e o l m is = let p = l (omega arith) in let q = is (omega arith) in absurd (omega arith)

pub low_more : (x next old more now count after : ℕ) → now ≡ old + more → 1 ≤ now → (1 ≤ old → x < next) → (1 ≤ more → (x ≡ next) × (count ≡ 1)) → after ≡ next + count → x < after
low_more x next zero more now count after e at l is n = let q = is (omega arith) in let q0 = q.0 in let q1 = q.1 in omega arith
low_more x next (suc old) more now count after e at l is n = let p = l (omega arith) in omega arith

pub decided-held : (n : ℕ) (may : Bool) (s : State) → Held n s → Held n (decided may s)
decided-held n may s h =
    let a = acted may s in
    let m = (actions_of may s).main in
    let u = h.units in let k = h.next in let z = a.next in
    record {
      units = units_are a.terms ∙ h.units;
      next = let w = begun-most m s.next s.terms.units (λ i e. ((a.begun i e).0, (a.begun i e).2)) (omega arith) in omega arith;
      once = λ x. let b = begun-next x m s.next (λ i e. (a.begun i e).0) in let d = decided-hand x may s in once_more x s.next (in_hand x s) (times x (begun_by m)) (in_hand x (decided may s)) d (h.once x) (h.low x) b.1 (λ l. (b.0 l).0);
      low = λ x at. let b = begun-next x m s.next (λ i e. (a.begun i e).0) in let d = decided-hand x may s in low_more x s.next (in_hand x s) (times x (begun_by m)) (in_hand x (decided may s)) (length (begun_by m)) (decided may s).next d at (h.low x) b.0 z;
    }

fewer : (n : ℕ) (s e : State) → e.next ≡ s.next → e.terms.units ≡ s.terms.units → ((x : ℕ) → in_hand x e ≤ in_hand x s) → Held n s → Held n e
fewer n s e same units less h = let k = h.next in record {
  units = units ∙ h.units;
  next = omega arith;
  once = λ x. let o = h.once x in let l = less x in omega arith;
  low = λ x at. let l = less x in let o = h.low x (omega arith) in omega arith;
}

-- how often x is generated or queued
abbrev pub waits : ℕ → State → ℕ
waits x s = times_some x s.gen + queued_at x s.queue

-- an awaited event makes no unit wait or run that did neither
pub effect-fewer : (x : ℕ) (e : Event) (s : State) → is_awaited s e ≡ true → (waits x (effect e s) ≤ waits x s) × (running_at x (effect e s).running ≤ running_at x s.running)
effect-fewer x (Took b) s out = (omega arith, omega arith)
effect-fewer x Empty s out = (omega arith, omega arith)
effect-fewer x TakeFault s out = (omega arith, omega arith)
effect-fewer x (Generated i c) s out = (by (ltb i s.bar) (ap (times_some x) (gen_is i s.gen out)), omega arith)
  where
    by : (t : Bool) → times_some x s.gen ≡ one_if (eqb x i) → 0 + queued_at x (cond t (placed (record { cost = c; unit = i }) s.queue) s.queue) ≤ waits x s
    by true g = let q = queued_at-placed x (record { cost = c; unit = i }) s.queue in omega arith
    by false g = omega arith
effect-fewer x (GenFailed i) s out = let q = kept_if-fewer s.terms.keep x (min s.bar i) s.queue in (omega arith, omega arith)
effect-fewer x (Made i) s out = let r = running_at-without x i s.running out in (omega arith, omega arith)
effect-fewer x (MakeFailed i) s out = let r = running_at-without x i s.running out in let q = kept_if-fewer s.terms.keep x (min s.bar i) s.queue in (omega arith, omega arith)
effect-fewer x (Wanted i) s out = by (is_gen i s.gen) out
  where
    by : (t : Bool) → (t || runs i s.running) ≡ true → (waits x (wanted t i s) ≤ waits x s) × (running_at x (wanted t i s).running ≤ running_at x s.running)
    by true o = let q = kept_to-fewer x (min s.bar i) s.queue in (omega arith, omega arith)
    by false o = let r = running_at-without x i s.running o in let q = kept_to-fewer x (min s.bar i) s.queue in (omega arith, omega arith)
effect-fewer x (Gave b) s out = (omega arith, omega arith)
effect-fewer x (GiveFault b) s out = (omega arith, omega arith)

pub effect-next : (e : Event) (s : State) → ((effect e s).next ≡ s.next) × ((effect e s).terms ≡ s.terms)
effect-next (Took b) s = (refl, refl)
effect-next Empty s = (refl, refl)
effect-next TakeFault s = (refl, refl)
effect-next (Generated i c) s = (refl, refl)
effect-next (GenFailed i) s = (refl, refl)
effect-next (Made i) s = (refl, refl)
effect-next (MakeFailed i) s = (refl, refl)
effect-next (Wanted i) s = by (is_gen i s.gen)
  where
    by : (t : Bool) → ((wanted t i s).next ≡ s.next) × ((wanted t i s).terms ≡ s.terms)
    by true = (refl, refl)
    by false = (refl, refl)
effect-next (Gave b) s = (refl, refl)
effect-next (GiveFault b) s = (refl, refl)

pub effect-held : (n : ℕ) (e : Event) (s : State) → is_awaited s e ≡ true → Held n s → Held n (effect e s)
effect-held n e s out h = let z = effect-next e s in fewer n s (effect e s) z.0 (units_are z.1) (λ x. let f = effect-fewer x e s out in let a = f.0 in let b = f.1 in omega arith) h

-- the terms never change
pub step-terms : (s : State) (e : Event) → (step s e).terms ≡ s.terms
step-terms s e = (acted (may_ask e) (effect e s)).terms ∙ (effect-next e s).1

run_from-terms : (s : State) (es : List Event) → (run_from s es).terms ≡ s.terms
run_from-terms s [] = refl
run_from-terms s (e ∷ es) = run_from-terms (step s e) es ∙ step-terms s e

pub opened-terms : (terms : Terms) → (opened terms).terms ≡ terms
opened-terms terms = (acted true (first terms)).terms

pub run-terms : (terms : Terms) (es : List Event) → (run terms es).terms ≡ terms
run-terms terms es = run_from-terms (opened terms) es ∙ opened-terms terms

run_from-held : (n : ℕ) (s : State) (es : List Event) → LawfulFrom s es → Held n s → Held n (run_from s es)
run_from-held n s [] l h = h
run_from-held n s (e ∷ es) l h = run_from-held n (step s e) es l.1 (decided-held n (may_ask e) (effect e s) (effect-held n e s l.0 h))

pub first-held : (terms : Terms) → Held terms.units (first terms)
first-held terms = record { units = refl; next = omega arith; once = λ x. omega arith; low = λ x at. absurd (omega arith) }

pub opened-held : (terms : Terms) → Held terms.units (opened terms)
opened-held terms = decided-held terms.units true (first terms) (first-held terms)

pub run-held : (terms : Terms) (es : List Event) → Lawful terms es → Held terms.units (run terms es)
run-held terms es l = run_from-held terms.units (opened terms) es l (opened-held terms)

pub in_hand_at : (terms : Terms) (es : List Event) → Lawful terms es → InHand terms.units (run terms es)
in_hand_at terms es l = let r = run-held terms es l in record { once = r.once; below = r.low; most = r.next }
