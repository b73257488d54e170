-- At most eight events a unit.
use Rattle.std.proofs.Common.{◌≡◌, ◌⊎◌, inl, inr, ℕ, ◌+◌, ◌-◌, ◌<◌, ◌≤◌, ◌*◌, ltb, min, Bool, true, false, not, ◌&&◌, ◌||◌, cond, List, [], ◌∷◌, ◌++◌, length, length-append, Option, Some, None, is_none, option_to_list, sym, refl, ap, ◌∙◌, subst, arith}
use Rattle.std.proofs.lemmas.Bool.{and_parts, and_right}
use Rattle.counting.specs.Count.{one_if, total}
use Rattle.coord_core.specs.declared.event.Event.{Event}
use Rattle.coord_core.specs.declared.event.Event.TheVariants.{Took, Empty, TakeFault, Generated, GenFailed, Made, MakeFailed, Wanted, Gave, GiveFault}
use Rattle.coord_core.specs.declared.event.Main.{Main}
use Rattle.coord_core.specs.declared.event.Main.TheVariants.{Idle, Generate, Lend}
use Rattle.coord_core.specs.declared.queue.Queued.{Queued}
use Rattle.coord_core.specs.declared.terms.Terms.{Terms}
use Rattle.coord_core.specs.State.{State, one_some, payers, own_of, is_gen, runs, placed, is_empty, bytes_in}
use Rattle.coord_core.specs.Effect.{gen_ended, ended, cut, wanted, effect}
use Rattle.coord_core.specs.Decide.{may_generate, more_to_do, is_free, is_to_generate, passed, pass, started, start, gives, give, lends, main_by, main, asks_now, settled, may_ask, decided, actions_of}
use Rattle.coord_core.specs.Run.{first, opened, step, run_from, run, is_awaited, LawfulFrom, Lawful}
use Rattle.coord_core.specs.Journal.{begun_by, of_unit, of_ask, of_give}
use Rattle.coord_core.specs.Laws.{gen_or, Fits, Few}
use Rattle.coord_core.proofs.Jobs.{none_is, gen_is, length-jobs, length-without, payers-without, length-placed, length-kept_if, length-bytes_without}
use Rattle.coord_core.proofs.Acted.{acted, units_are, decided-spare}
use Rattle.coord_core.proofs.Hand.{step-terms, opened-terms}

-- g generations and o jobs were answered, a asks and v gives, and u of the bytes that were taken paid a job at once
pub record Budget (g o a v u : ℕ) (s : State) : Type 0 where
  pub gen : g + one_some s.gen ≡ s.next
  pub most : s.next ≤ s.terms.units
  pub jobs : o + length s.running + length s.queue + one_some s.gen ≤ s.next
  pub asks : a + one_if s.asking ≤ g + o + u
  pub pays : u ≤ o + payers s.running
  pub gave : v + bytes_in s ≤ a

asks_nothing : (t : State) → t.queue ≡ [] → (own_of t.running ≡ None) ⊎ (may_generate t ≡ false) → asks_now t ≡ false
asks_nothing t q h = and_right _ _ (ap (λ (z : List Queued). not (is_empty z) || (not (is_none (own_of t.running)) && may_generate t)) q ∙ rest h)
  where
    rest : (own_of t.running ≡ None) ⊎ (may_generate t ≡ false) → (not (is_none (own_of t.running)) && may_generate t) ≡ false
    rest (inl e) = ap (λ (z : Option ℕ). not (is_none z) && may_generate t) e
    rest (inr e) = and_right _ _ e

main-asks : (t : State) (f g : Bool) → is_free t ≡ f → t.queue ≡ [] → (own_of t.running ≡ None) ⊎ (may_generate t ≡ false) → asks_now (main_by t f g) ≡ false
main-asks t false g e q h = asks_nothing t q h
main-asks t true true e q h = asks_nothing (record t { gen = Some t.next; next = t.next + 1 }) q (inl (none_is (own_of t.running) ((and_parts _ _ e).1)))
main-asks t true false e q h = ap (λ (z : List Queued). asks_now (lends t z)) q ∙ asks_nothing t q h

kept-start : (b : ℕ) (t : State) (o : Option ℕ) (q : List Queued) → t.spare ≡ o → t.queue ≡ q → (started t o q).spare ≡ Some b → (t.queue ≡ []) × (started t o q ≡ t)
kept-start b t (Some c) (x ∷ xs) eo eq h = absurd (cc)
kept-start b t (Some c) [] eo eq h = (eq, refl)
kept-start b t None q eo eq h = absurd (cc)

kept-pass : (b : ℕ) (s : State) (o p : Option ℕ) (w : Bool) → s.spare ≡ o → own_of s.running ≡ p → more_to_do s ≡ w → (passed s o p w).spare ≡ Some b → (passed s o p w ≡ s) × ((own_of s.running ≡ None) ⊎ (more_to_do s ≡ false))
kept-pass b s (Some c) (Some i) true eo ep ew h = absurd (cc)
kept-pass b s (Some c) (Some i) false eo ep ew h = (refl, inr ew)
kept-pass b s (Some c) None w eo ep ew h = (refl, inl ep)
kept-pass b s None p w eo ep ew h = absurd (cc)

give-same : (s : State) (o : Option ℕ) → ((gives s o).queue ≡ s.queue) × (own_of (gives s o).running ≡ own_of s.running) × (may_generate (gives s o) ≡ may_generate s)
give-same s (Some b) = (refl, refl, refl)
give-same s None = (refl, refl, refl)

no_ask : (b : ℕ) (s : State) → (start (pass s)).spare ≡ Some b → asks_now (main (settled s)) ≡ false
no_ask b s h =
    let k = kept-start b (pass s) (pass s).spare (pass s).queue refl refl h in
    let spare : (pass s).spare ≡ Some b = ap (λ (z : State). z.spare) (sym k.1) ∙ h in
    let l = kept-pass b s s.spare (own_of s.running) (more_to_do s) refl refl refl spare in
    let e : start (pass s) ≡ s = k.1 ∙ l.0 in
    let q : s.queue ≡ [] = ap (λ (z : State). z.queue) (sym l.0) ∙ k.0 in
    let c = give-same s s.spare in
    subst (λ (z : State). asks_now (main (give z)) ≡ false) (sym e) (main-asks (give s) (is_free (give s)) (is_to_generate (give s)) refl (c.0 ∙ q) (either q c.1 c.2 l.1))
  where
    either : s.queue ≡ [] → own_of (give s).running ≡ own_of s.running → may_generate (give s) ≡ may_generate s → (own_of s.running ≡ None) ⊎ (more_to_do s ≡ false) → (own_of (give s).running ≡ None) ⊎ (may_generate (give s) ≡ false)
    either q o m (inl e) = inl (o ∙ e)
    either q o m (inr e) = inr (m ∙ sym (ap (λ (z : List Queued). not (is_empty z) || may_generate s) q) ∙ e)

-- 1 where a byte is given back, and where an ask begins
abbrev kept : State → ℕ
kept s = one_some (start (pass s)).spare

abbrev asking_by : Bool → State → ℕ
asking_by may s = one_if (may && asks_now (main (settled s)))

-- a byte that is given back is not followed by an ask
ask_or_give : (may : Bool) (s : State) → asking_by may s + kept s ≤ 1
ask_or_give may s = by (start (pass s)).spare refl
  where
    some_le : (t : Bool) → one_if t ≤ 1
    some_le true = omega arith
    some_le false = omega arith

    and_no : (t b : Bool) → b ≡ false → one_if (t && b) ≡ 0
    and_no true b e = ap one_if e
    and_no false b e = refl

    by : (o : Option ℕ) → (start (pass s)).spare ≡ o → asking_by may s + one_some o ≤ 1
    by None is = let l = some_le (may && asks_now (main (settled s))) in omega arith
    by (Some b) is = let z = and_no may (asks_now (main (settled s))) (no_ask b s is) in omega arith

kept-le : (s : State) → kept s ≤ one_some s.spare
kept-le s = let a = passed-le s.spare (own_of s.running) (more_to_do s) refl in let b = started-le (pass s) (pass s).spare (pass s).queue refl in omega arith
  where
    passed-le : (b o : Option ℕ) (w : Bool) → s.spare ≡ b → one_some (passed s b o w).spare ≤ one_some s.spare
    passed-le (Some b) (Some i) true is = omega arith
    passed-le (Some b) (Some i) false is = omega arith
    passed-le (Some b) None w is = omega arith
    passed-le None o w is = omega arith

    started-le : (t : State) (b : Option ℕ) (q : List Queued) → t.spare ≡ b → one_some (started t b q).spare ≤ one_some t.spare
    started-le t (Some b) (x ∷ xs) is = omega arith
    started-le t (Some b) [] is = omega arith
    started-le t None q is = omega arith

pub gen-count : (m : Main) (g : Option ℕ) (next units : ℕ) → ((i : ℕ) → m ≡ Generate i → (g ≡ None) × (i ≡ next) × (i < units)) → (one_some (gen_or m g) ≡ one_some g + length (begun_by m)) × (next ≤ units → next + length (begun_by m) ≤ units)
gen-count Idle g next units h = (omega arith, λ l. omega arith)
gen-count (Lend i) g next units h = (omega arith, λ l. omega arith)
gen-count (Generate i) g next units h = let b = h i refl in let e : one_some g ≡ 0 = ap one_some b.0 in let n = b.1 in let k = b.2 in (omega arith, λ l. omega arith)

or-le : (a b : Bool) → one_if (a || b) ≤ one_if a + one_if b
or-le true b = omega arith
or-le false b = omega arith

list-one : (o : Option ℕ) → length (option_to_list o) ≡ one_some o
list-one (Some x) = refl
list-one None = refl

-- what the counts are before the decisions
record Due (g o a v u : ℕ) (may : Bool) (s : State) : Type 0 where
  gen : g + one_some s.gen ≡ s.next
  most : s.next ≤ s.terms.units
  jobs : o + length s.running + length s.queue + one_some s.gen ≤ s.next
  asks : a + one_if s.asking + asking_by may s ≤ g + o + u
  pays : u + kept s ≤ o + payers s.running + one_some s.spare
  gave : v + bytes_in s ≤ a

decided-budget : (g o a v u : ℕ) (may : Bool) (s : State) → Due g o a v u may s → Budget g o a v u (decided may s)
decided-budget g o a v u may s h =
    let d = acted may s in
    let m = (actions_of may s).main in
    let c = gen-count m s.gen s.next s.terms.units (λ i e. let b = d.begun i e in (b.1, b.0, b.2)) in
    let n = d.next in let r = d.count in let q = d.queue_count in let b = d.bytes in let w = units_are d.terms in
    let k : one_some (decided may s).gen ≡ one_some (gen_or m s.gen) = ap one_some d.gen in
    let ask : one_if (decided may s).asking ≡ one_if (s.asking || (actions_of may s).ask) = ap one_if d.asking in
    let l = or-le s.asking (actions_of may s).ask in
    let z : one_some (decided may s).spare ≡ 0 = ap one_some (decided-spare may s) in
    let gl : length (decided may s).giving ≡ length (s.giving ++ option_to_list (start (pass s)).spare) = ap (λ (x : List ℕ). length x) d.giving in
    let ga = length-append s.giving (option_to_list (start (pass s)).spare) in
    let go = list-one (start (pass s)).spare in
    let h0 = h.gen in let h1 = h.most in let h2 = h.jobs in let h3 = h.asks in let h4 = h.pays in let h5 = h.gave in
    let c0 = c.0 in let c1 = c.1 h1 in
    record { gen = omega arith; most = omega arith; jobs = omega arith; asks = omega arith; pays = omega arith; gave = omega arith }

gen-one : (i : ℕ) (g : Option ℕ) → is_gen i g ≡ true → one_some g ≡ 1
gen-one i g h = ap one_some (gen_is i g h)

queued-length : (b : Bool) (e : Queued) (q : List Queued) → length (cond b (placed e q) q) ≤ length q + 1
queued-length true e q = let p = length-placed e q in omega arith
queued-length false e q = omega arith

-- one event more is counted
abbrev Next : (g o a v u : ℕ) → Event → State → Type 0
Next g o a v u e s = (g' : ℕ) × (o' : ℕ) × (a' : ℕ) × (v' : ℕ) × (u' : ℕ) × (g' + o' ≡ g + o + of_unit e) × (a' ≡ a + of_ask e) × (v' ≡ v + of_give e) × Budget g' o' a' v' u' s

module _ (g o a v u : ℕ) (s : State) (none : s.spare ≡ None) (h : Budget g o a v u s) where
  gen-failed : (k : Bool) (i : ℕ) → is_gen i s.gen ≡ true → Next g o a v u (GenFailed i) (decided true (cut k i (gen_ended s)))
  gen-failed k i out =
      let h0 = h.gen in let h1 = h.most in let h2 = h.jobs in let h3 = h.asks in let h4 = h.pays in let h5 = h.gave in
      let z : one_some s.spare ≡ 0 = ap one_some none in
      let t = cut k i (gen_ended s) in
      let x = ask_or_give true t in let y = kept-le t in
      let e = gen-one i s.gen out in let f = length-kept_if k (min s.bar i) s.queue in
      (g + 1, o, a, v, u, omega arith, omega arith, omega arith, decided-budget (g + 1) o a v u true t (record { gen = omega arith; most = omega arith; jobs = omega arith; asks = omega arith; pays = omega arith; gave = omega arith }))

  make-failed : (k : Bool) (i : ℕ) → runs i s.running ≡ true → Next g o a v u (MakeFailed i) (decided true (cut k i (ended i s)))
  make-failed k i out =
      let h0 = h.gen in let h1 = h.most in let h2 = h.jobs in let h3 = h.asks in let h4 = h.pays in let h5 = h.gave in
      let z : one_some s.spare ≡ 0 = ap one_some none in
      let t = cut k i (ended i s) in
      let x = ask_or_give true t in let y = kept-le t in
      let n = length-without i s.running out in let c = payers-without i s.running out in let f = length-kept_if k (min s.bar i) s.queue in
      (g, o + 1, a, v, u, omega arith, omega arith, omega arith, decided-budget g (o + 1) a v u true t (record { gen = omega arith; most = omega arith; jobs = omega arith; asks = omega arith; pays = omega arith; gave = omega arith }))

  next-event : (e : Event) → is_awaited s e ≡ true → Next g o a v u e (step s e)
  next-event (Took b) out =
      let h0 = h.gen in let h1 = h.most in let h2 = h.jobs in let h3 = h.asks in let h4 = h.pays in let h5 = h.gave in
      let z : one_some s.spare ≡ 0 = ap one_some none in
      let t = effect (Took b) s in
      let x = ask_or_give true t in let y = kept-le t in
      let w : one_if s.asking ≡ 1 = ap one_if out in
      (g, o, a + 1, v, u + 1 - kept t, omega arith, omega arith, omega arith, decided-budget g o (a + 1) v (u + 1 - kept t) true t (record { gen = omega arith; most = omega arith; jobs = omega arith; asks = omega arith; pays = omega arith; gave = omega arith }))
  next-event Empty out =
      let h0 = h.gen in let h1 = h.most in let h2 = h.jobs in let h3 = h.asks in let h4 = h.pays in let h5 = h.gave in
      let z : one_some s.spare ≡ 0 = ap one_some none in
      let t = effect Empty s in
      let y = kept-le t in
      let w : one_if s.asking ≡ 1 = ap one_if out in
      (g, o, a + 1, v, u, omega arith, omega arith, omega arith, decided-budget g o (a + 1) v u false t (record { gen = omega arith; most = omega arith; jobs = omega arith; asks = omega arith; pays = omega arith; gave = omega arith }))
  next-event TakeFault out =
      let h0 = h.gen in let h1 = h.most in let h2 = h.jobs in let h3 = h.asks in let h4 = h.pays in let h5 = h.gave in
      let z : one_some s.spare ≡ 0 = ap one_some none in
      let t = effect TakeFault s in
      let y = kept-le t in
      let w : one_if s.asking ≡ 1 = ap one_if out in
      (g, o, a + 1, v, u, omega arith, omega arith, omega arith, decided-budget g o (a + 1) v u false t (record { gen = omega arith; most = omega arith; jobs = omega arith; asks = omega arith; pays = omega arith; gave = omega arith }))
  next-event (Generated i c) out =
      let h0 = h.gen in let h1 = h.most in let h2 = h.jobs in let h3 = h.asks in let h4 = h.pays in let h5 = h.gave in
      let z : one_some s.spare ≡ 0 = ap one_some none in
      let t = effect (Generated i c) s in
      let x = ask_or_give true t in let y = kept-le t in
      let e = gen-one i s.gen out in let l = queued-length (ltb i s.bar) (record { cost = c; unit = i }) s.queue in
      (g + 1, o, a, v, u, omega arith, omega arith, omega arith, decided-budget (g + 1) o a v u true t (record { gen = omega arith; most = omega arith; jobs = omega arith; asks = omega arith; pays = omega arith; gave = omega arith }))
  next-event (GenFailed i) out = gen-failed s.terms.keep i out
  next-event (Made i) out =
      let h0 = h.gen in let h1 = h.most in let h2 = h.jobs in let h3 = h.asks in let h4 = h.pays in let h5 = h.gave in
      let z : one_some s.spare ≡ 0 = ap one_some none in
      let t = effect (Made i) s in
      let x = ask_or_give true t in let y = kept-le t in
      let n = length-without i s.running out in let c = payers-without i s.running out in
      (g, o + 1, a, v, u, omega arith, omega arith, omega arith, decided-budget g (o + 1) a v u true t (record { gen = omega arith; most = omega arith; jobs = omega arith; asks = omega arith; pays = omega arith; gave = omega arith }))
  next-event (MakeFailed i) out = make-failed s.terms.keep i out
  next-event (Wanted i) out = by (is_gen i s.gen) refl out
    where
      by : (t : Bool) → is_gen i s.gen ≡ t → (t || runs i s.running) ≡ true → Next g o a v u (Wanted i) (decided true (wanted t i s))
      by true at out = gen-failed false i at
      by false at out = make-failed false i out
  next-event (Gave b) out =
      let h0 = h.gen in let h1 = h.most in let h2 = h.jobs in let h3 = h.asks in let h4 = h.pays in let h5 = h.gave in
      let z : one_some s.spare ≡ 0 = ap one_some none in
      let t = effect (Gave b) s in
      let y = kept-le t in
      let l = length-bytes_without b s.giving out in
      (g, o, a, v + 1, u, omega arith, omega arith, omega arith, decided-budget g o a (v + 1) u false t (record { gen = omega arith; most = omega arith; jobs = omega arith; asks = omega arith; pays = omega arith; gave = omega arith }))
  next-event (GiveFault b) out =
      let h0 = h.gen in let h1 = h.most in let h2 = h.jobs in let h3 = h.asks in let h4 = h.pays in let h5 = h.gave in
      let z : one_some s.spare ≡ 0 = ap one_some none in
      let t = effect (GiveFault b) s in
      let y = kept-le t in
      let l = length-bytes_without b s.giving out in
      (g, o, a, v + 1, u, omega arith, omega arith, omega arith, decided-budget g o a (v + 1) u false t (record { gen = omega arith; most = omega arith; jobs = omega arith; asks = omega arith; pays = omega arith; gave = omega arith }))

-- the counts of a run with so many events of each kind
pub record Counted (n : ℕ) (s : State) (units asks gives : ℕ) : Type 0 where
  pub g : ℕ
  pub o : ℕ
  pub a : ℕ
  pub v : ℕ
  pub u : ℕ
  pub of_units : g + o ≡ units
  pub of_asks : a ≡ asks
  pub of_gives : v ≡ gives
  pub units_is : s.terms.units ≡ n
  pub budget : Budget g o a v u s

same_counts : (n : ℕ) (s : State) (u a v u' a' v' : ℕ) → u' ≡ u → a' ≡ a → v' ≡ v → Counted n s u a v → Counted n s u' a' v'
same_counts n s u a v u' a' v' eu ea ev h = let x = h.of_units in let y = h.of_asks in let z = h.of_gives in record { g = h.g; o = h.o; a = h.a; v = h.v; u = h.u; of_units = omega arith; of_asks = omega arith; of_gives = omega arith; units_is = h.units_is; budget = h.budget }

run_from-counted : (n units asks gives : ℕ) (s : State) (es : List Event) → LawfulFrom s es → s.spare ≡ None → Counted n s units asks gives → Counted n (run_from s es) (units + total of_unit es) (asks + total of_ask es) (gives + total of_give es)
run_from-counted n units asks gives s [] l none h = same_counts n s units asks gives _ _ _ (omega arith) (omega arith) (omega arith) h
run_from-counted n units asks gives s (e ∷ es) l none h =
    let t = next-event h.g h.o h.a h.v h.u s none h.budget e l.0 in
    let d = step-terms s e in
    let x = h.of_units in let y = h.of_asks in let z = h.of_gives in
    let t5 = t.5 in let t6 = t.6 in let t7 = t.7 in
    let r = run_from-counted n (units + of_unit e) (asks + of_ask e) (gives + of_give e) (step s e) es l.1 (decided-spare (may_ask e) (effect e s)) (record { g = t.0; o = t.1; a = t.2; v = t.3; u = t.4; of_units = omega arith; of_asks = omega arith; of_gives = omega arith; units_is = units_are d ∙ h.units_is; budget = t.8 }) in
    same_counts n (run_from (step s e) es) (units + of_unit e + total of_unit es) (asks + of_ask e + total of_ask es) (gives + of_give e + total of_give es) _ _ _ (omega arith) (omega arith) (omega arith) r

first-ask : (terms : Terms) → one_if (asks_now (main (settled (first terms)))) ≡ 0
first-ask terms = ap one_if (main-asks (first terms) (is_free (first terms)) (is_to_generate (first terms)) refl refl (inl refl))

pub counted : (terms : Terms) (es : List Event) → Lawful terms es → Counted terms.units (run terms es) (total of_unit es) (total of_ask es) (total of_give es)
counted terms es l =
    let a = first-ask terms in
    let b : Budget 0 0 0 0 0 (opened terms) = decided-budget 0 0 0 0 0 true (first terms) (record { gen = refl; most = omega arith; jobs = omega arith; asks = omega arith; pays = omega arith; gave = omega arith }) in
    let u = units_are (opened-terms terms) in
    let r = run_from-counted terms.units 0 0 0 (opened terms) es l (decided-spare true (first terms)) (record { g = 0; o = 0; a = 0; v = 0; u = 0; of_units = refl; of_asks = refl; of_gives = refl; units_is = u; budget = b }) in
    same_counts terms.units (run terms es) (0 + total of_unit es) (0 + total of_ask es) (0 + total of_give es) _ _ _ (omega arith) (omega arith) (omega arith) r

-- each event is of one kind
kinds : (es : List Event) → length es ≡ total of_unit es + total of_ask es + total of_give es
kinds [] = refl
kinds (e ∷ es) = let r = kinds es in let k = kind e in omega arith
  where
    kind : (e : Event) → of_unit e + of_ask e + of_give e ≡ 1
    kind (Took b) = refl
    kind Empty = refl
    kind TakeFault = refl
    kind (Generated i c) = refl
    kind (GenFailed i) = refl
    kind (Made i) = refl
    kind (MakeFailed i) = refl
    kind (Wanted i) = refl
    kind (Gave b) = refl
    kind (GiveFault b) = refl

pub few : (terms : Terms) (es : List Event) → Lawful terms es → Few terms.units es
few terms es l =
    let c = counted terms es l in
    let b = c.budget in
    let x = c.of_units in let y = c.of_asks in let z = c.of_gives in let w = c.units_is in
    let h0 = b.gen in let h1 = b.most in let h2 = b.jobs in let h3 = b.asks in let h4 = b.pays in let h5 = b.gave in
    let p = length-jobs (run terms es).running in record { units = omega arith; asks = omega arith; gives = omega arith }

pub room : (terms : Terms) (es : List Event) → Lawful terms es → length es ≤ 8 * terms.units
room terms es l = let f = few terms es l in let k = kinds es in let a = f.units in let b = f.asks in let c = f.gives in omega arith

pub fits : (terms : Terms) (es : List Event) → Lawful terms es → Fits terms.units (run terms es)
fits terms es l =
    let c = counted terms es l in
    let b = c.budget in
    let w = c.units_is in
    let h0 = b.gen in let h1 = b.most in let h2 = b.jobs in let h3 = b.asks in let h4 = b.pays in let h5 = b.gave in
    let p = length-jobs (run terms es).running in record { queue = omega arith; giving = omega arith }
