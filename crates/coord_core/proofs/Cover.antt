-- Each unit below the bar is in hand or needs no more, so that in a finished run none of them needs more.
use Rattle.std.proofs.Common.{◌≡◌, ◌≢◌, ◌⊎◌, inl, inr, ⊎_elim, ℕ, ◌+◌, ◌<◌, ◌≤◌, ltb, min, Bool, true, false, not, ◌&&◌, ◌||◌, eqb, cond, List, [], ◌∷◌, ◌++◌, length, find, option_map, Option, Some, None, is_none, sym, refl, ap, subst, arith}
use Rattle.std.proofs.lemmas.Bool.{eqb-true, eq-eqb, and_parts, ltb-false}
use Rattle.std.proofs.lemmas.Bool.Decides.{nat_tests}
use Rattle.counting.specs.Count.{one_if, times}
use Rattle.counting.proofs.Count.{times-append}
use Rattle.coord_core.specs.declared.event.Event.{Event}
use Rattle.coord_core.specs.declared.event.Event.TheVariants.{Took, Empty, TakeFault, Generated, GenFailed, Made, MakeFailed, Wanted, Gave, GiveFault}
use Rattle.coord_core.specs.declared.event.Main.{Main}
use Rattle.coord_core.specs.declared.event.Main.TheVariants.{Idle, Generate, Lend}
use Rattle.coord_core.specs.declared.job.Job.{Job}
use Rattle.coord_core.specs.declared.queue.Queued.{Queued}
use Rattle.coord_core.specs.declared.terms.Terms.{Terms}
use Rattle.coord_core.specs.State.{State, times_some, queued_at, running_at, in_hand, own_of, is_gen, runs, jobs_without, placed}
use Rattle.coord_core.specs.Effect.{bar_if, kept_if, wanted, effect}
use Rattle.coord_core.specs.Decide.{may_generate, full_enough, is_free, is_to_generate, lends, main_by, main, settled, asked, asks_now, may_ask, decided, actions_of}
use Rattle.coord_core.specs.Run.{first, opened, step, run_from, run, is_awaited, LawfulFrom, Lawful, is_finished}
use Rattle.coord_core.specs.Journal.{begun_by, covered_by, covered}
use Rattle.coord_core.specs.Laws.{Complete}
use Rattle.coord_core.proofs.Jobs.{none_is, gen_is, running_at-without, queued_at-placed, queued_at-kept_to}
use Rattle.coord_core.proofs.Acted.{acted}
use Rattle.coord_core.proofs.Hand.{Held, effect-next, opened-terms, run-terms, decided-hand, effect-held, decided-held, opened-held, run-held}
use Rattle.coord_core.proofs.Bar.{Lowers, effect-lowers, step-keep}

-- m: how often each unit was told to need no more
record Cover (n : ℕ) (m : ℕ → ℕ) (s : State) : Type 0 where
  bar : s.bar ≤ n
  below : s.bar < n → s.bar < s.next
  there : (i : ℕ) → i < s.bar → i < s.next → 1 ≤ in_hand i s + m i

covered-made : (k : Bool) (x i : ℕ) → times x (covered_by k (Made i)) ≡ one_if (eqb x i)
covered-made true x i = omega arith
covered-made false x i = omega arith

not_at : (x i : ℕ) → x < i → one_if (eqb x i) ≡ 0
not_at x i low = let e : eqb x i ≡ false = grind (arith, nat_tests) in ap one_if e

-- below the bar that an event leaves, what was in hand still is, or needs no more
effect-keeps : (x : ℕ) (e : Event) (s : State) → is_awaited s e ≡ true → x < (effect e s).bar → in_hand x s ≤ in_hand x (effect e s) + times x (covered_by s.terms.keep e)
effect-keeps x (Took b) s out low = omega arith
effect-keeps x Empty s out low = omega arith
effect-keeps x TakeFault s out low = omega arith
effect-keeps x (Generated i c) s out low = by (ltb i s.bar) refl (ap (times_some x) (gen_is i s.gen out))
  where
    by : (t : Bool) → ltb i s.bar ≡ t → times_some x s.gen ≡ one_if (eqb x i) → in_hand x s ≤ (0 + queued_at x (cond t (placed (record { cost = c; unit = i }) s.queue) s.queue) + running_at x s.running) + times x (covered_by s.terms.keep (Generated i c))
    by true is g = let q = queued_at-placed x (record { cost = c; unit = i }) s.queue in omega arith
    by false is g = let l = ltb-false i s.bar is in let z = not_at x i (omega arith) in omega arith
effect-keeps x (GenFailed i) s out low = by s.terms.keep (ap (times_some x) (gen_is i s.gen out)) low
  where
    by : (k : Bool) → times_some x s.gen ≡ one_if (eqb x i) → x < bar_if k s.bar i → in_hand x s ≤ (0 + queued_at x (kept_if k (min s.bar i) s.queue) + running_at x s.running) + times x (covered_by k (GenFailed i))
    by true g low = omega arith
    by false g low = let z = not_at x i (omega arith) in let q = queued_at-kept_to x (min s.bar i) s.queue (omega arith) in omega arith
effect-keeps x (Made i) s out low = let r = running_at-without x i s.running out in let c = covered-made s.terms.keep x i in omega arith
effect-keeps x (MakeFailed i) s out low = by s.terms.keep (running_at-without x i s.running out) low
  where
    by : (k : Bool) → running_at x (jobs_without i s.running) + one_if (eqb x i) ≡ running_at x s.running → x < bar_if k s.bar i → in_hand x s ≤ (times_some x s.gen + queued_at x (kept_if k (min s.bar i) s.queue) + running_at x (jobs_without i s.running)) + times x (covered_by k (MakeFailed i))
    by true r low = omega arith
    by false r low = let z = not_at x i (omega arith) in let q = queued_at-kept_to x (min s.bar i) s.queue (omega arith) in omega arith
effect-keeps x (Wanted i) s out low = by (is_gen i s.gen) refl out low
  where
    by : (t : Bool) → is_gen i s.gen ≡ t → (t || runs i s.running) ≡ true → x < (wanted t i s).bar → in_hand x s ≤ in_hand x (wanted t i s) + times x (covered_by s.terms.keep (Wanted i))
    by true is o low = let g : times_some x s.gen ≡ one_if (eqb x i) = ap (times_some x) (gen_is i s.gen is) in let z = not_at x i (omega arith) in let q = queued_at-kept_to x (min s.bar i) s.queue (omega arith) in omega arith
    by false is o low = let r = running_at-without x i s.running o in let z = not_at x i (omega arith) in let q = queued_at-kept_to x (min s.bar i) s.queue (omega arith) in omega arith
effect-keeps x (Gave b) s out low = omega arith
effect-keeps x (GiveFault b) s out low = omega arith

abbrev after : Bool → Event → (ℕ → ℕ) → ℕ → ℕ
after k e m x = times x (covered_by k e) + m x

effect-cover : (n : ℕ) (m : ℕ → ℕ) (e : Event) (s : State) → is_awaited s e ≡ true → Held n s → Cover n m s → Cover n (after s.terms.keep e m) (effect e s)
effect-cover n m e s out held h = by (effect-lowers e s out) ((effect-next e s).0)
  where
    keeps : (effect e s).next ≡ s.next → (effect e s).bar ≤ s.bar → (x : ℕ) → x < (effect e s).bar → x < (effect e s).next → 1 ≤ in_hand x (effect e s) + after s.terms.keep e m x
    keeps next less x low there = let k = effect-keeps x e s out low in let t = h.there x (omega arith) (omega arith) in omega arith

    by : Lowers s.terms.keep e s (effect e s) → (effect e s).next ≡ s.next → Cover n (after s.terms.keep e m) (effect e s)
    by (inl g) next = let b = g.1 in let z = h.bar in record { bar = omega arith; below = λ low. (let y = h.below (omega arith) in omega arith); there = keeps next (omega arith) }
    by (inr g) next = let b = g.2 in let z = h.bar in let y = held.low g.0 g.3 in record { bar = omega arith; below = λ low. omega arith; there = keeps next (omega arith) }

-- a unit that is begun is in hand
begun-there : (x next : ℕ) (m : Main) → ((i : ℕ) → m ≡ Generate i → i ≡ next) → next ≤ x → x < next + length (begun_by m) → 1 ≤ times x (begun_by m)
begun-there x next Idle h low high = absurd (omega arith)
begun-there x next (Lend i) h low high = absurd (omega arith)
begun-there x next (Generate i) h low high = let e = h i refl in let same : x ≡ i = omega arith in let o : one_if (eqb x i) ≡ 1 = ap one_if (eq-eqb x i same) in omega arith

decided-cover : (n : ℕ) (m : ℕ → ℕ) (may : Bool) (s : State) → Cover n m s → Cover n m (decided may s)
decided-cover n m may s h =
    let a = acted may s in
    let b = a.bar in let z = a.next in let l = h.bar in
    record {
      bar = omega arith;
      below = λ low. let y = h.below (omega arith) in omega arith;
      there = λ x low next. old_or_new x low next (ltb x s.next) refl;
    }
  where
    old_or_new : (x : ℕ) → x < (decided may s).bar → x < (decided may s).next → (t : Bool) → ltb x s.next ≡ t → 1 ≤ in_hand x (decided may s) + m x
    old_or_new x low next true is = let b = (acted may s).bar in let d = decided-hand x may s in let l : x < s.next = grind (arith, nat_tests) in let t = h.there x (omega arith) l in omega arith
    old_or_new x low next false is = let a = acted may s in let z = a.next in let d = decided-hand x may s in let t = begun-there x s.next (actions_of may s).main (λ i e. (a.begun i e).0) (ltb-false x s.next is) (omega arith) in omega arith

-- nothing is idle where something is to be done
abbrev pub IsSettled : State → Type 0
IsSettled s = (is_free s ≡ false) ⊎ ((s.queue ≡ []) × (may_generate s ≡ false))

own-snoc : (r : List Job) (i : ℕ) → is_none (own_of (r ++ (record { unit = i; payer = None }) ∷ [])) ≡ false
own-snoc [] i = refl
own-snoc (j ∷ js) i = by (is_none j.payer) (own-snoc js i)
  where
    rest : Option Job
    rest = find (λ (k : Job). is_none k.payer) (js ++ (record { unit = i; payer = None }) ∷ [])

    by : (t : Bool) → is_none (option_map (λ (k : Job). k.unit) rest) ≡ false → is_none (option_map (λ (k : Job). k.unit) (cond t (Some j) rest)) ≡ false
    by true h = refl
    by false h = h

and_false : (a b : Bool) → b ≡ false → (a && b) ≡ false
and_false true b h = h
and_false false b h = refl

main-settled : (s : State) (f g : Bool) (q : List Queued) → is_free s ≡ f → s.queue ≡ q → (may_generate s && not (full_enough (length q) (length s.running))) ≡ g → IsSettled (main_by s f g)
main-settled s false g q is at e = inl is
main-settled s true true q is at e = inl refl
main-settled s true false [] is at e = subst (λ (z : State). IsSettled z) (sym (nothing s.queue at)) (inr (at, and_right (may_generate s) e))
  where
    nothing : (l : List Queued) → l ≡ [] → lends s l ≡ s
    nothing [] h = refl
    nothing (x ∷ xs) h = absurd (cc)

    and_right : (b : Bool) → (b && not (full_enough 0 (length s.running))) ≡ false → b ≡ false
    and_right true h = h
    and_right false h = refl
main-settled s true false (x ∷ xs) is at e = subst (λ (z : State). IsSettled z) (sym (ap (lends s) at)) (inl (and_false (is_none s.gen) _ (own-snoc s.running x.unit)))

asked-settled : (s : State) (b : Bool) → IsSettled s → IsSettled (asked s b)
asked-settled s true h = h
asked-settled s false h = h

decided-settled : (may : Bool) (s : State) → IsSettled (decided may s)
decided-settled may s =
    let s3 = settled s in
    let s4 = main s3 in
    asked-settled s4 (may && asks_now s4) (main-settled s3 (is_free s3) (is_to_generate s3) s3.queue refl refl refl)

same_made : (n : ℕ) (m k : ℕ → ℕ) (s : State) → ((x : ℕ) → k x ≡ m x) → Cover n m s → Cover n k s
same_made n m k s same h = record { bar = h.bar; below = h.below; there = λ x low next. let e = same x in let t = h.there x low next in omega arith }

run_from-cover : (k : Bool) (n : ℕ) (m : ℕ → ℕ) (s : State) (es : List Event) → s.terms.keep ≡ k → LawfulFrom s es → Held n s → Cover n m s → IsSettled s → Cover n (λ x. times x (covered k es) + m x) (run_from s es) × IsSettled (run_from s es)
run_from-cover k n m s [] keep l held h settled = (same_made n m _ s (λ x. omega arith) h, settled)
run_from-cover k n m s (e ∷ es) keep l held h settled =
    let mid = subst (λ (b : Bool). Cover n (after b e m) (effect e s)) keep (effect-cover n m e s l.0 held h) in
    let r = run_from-cover k n (after k e m) (step s e) es (step-keep k s e keep) l.1 (decided-held n (may_ask e) (effect e s) (effect-held n e s l.0 held)) (decided-cover n (after k e m) (may_ask e) (effect e s) mid) (decided-settled (may_ask e) (effect e s)) in
    (same_made n (λ x. times x (covered k es) + after k e m x) _ (run_from (step s e) es) (λ x. let t = times-append x (covered_by k e) (covered k es) in omega arith) r.0, r.1)

-- no job, generation, ask or give is out
pub record Out (s : State) : Type 0 where
  pub running : s.running ≡ []
  pub gen : s.gen ≡ None
  pub asking : s.asking ≡ false
  pub giving : s.giving ≡ []

pub finished_is : (s : State) → is_finished s ≡ true → Out s
finished_is s h =
    let a = and_parts _ _ h in let b = and_parts _ _ a.0 in let c = and_parts _ _ b.0 in
    record { running = no_jobs s.running (eqb-true (length s.running) 0 c.0); gen = none_is s.gen c.1; asking = not_is s.asking b.1; giving = no_bytes s.giving (eqb-true (length s.giving) 0 a.1) }
  where
    no_jobs : (l : List Job) → length l ≡ 0 → l ≡ []
    no_jobs [] e = refl
    no_jobs (x ∷ xs) e = absurd (omega arith)

    no_bytes : (l : List ℕ) → length l ≡ 0 → l ≡ []
    no_bytes [] e = refl
    no_bytes (x ∷ xs) e = absurd (omega arith)

    not_is : (b : Bool) → not b ≡ true → b ≡ false
    not_is true e = absurd (cc)
    not_is false e = refl

nothing_left : (n : ℕ) (m : ℕ → ℕ) (s : State) (a b : Bool) → ltb s.next s.terms.units ≡ a → eqb s.bar s.terms.units ≡ b → (a && b) ≡ false → s.terms.units ≡ n → Cover n m s → (i : ℕ) → i < s.bar → i < s.next
nothing_left n m s false b is at e u c i low = let z = c.bar in let more = ltb-false s.next s.terms.units is in omega arith
nothing_left n m s true false is at e u c i low = let z = c.bar in let apart : s.bar ≢ s.terms.units = λ h. absurd (let t = eq-eqb s.bar s.terms.units h in cc) in let b = c.below (omega arith) in omega arith
nothing_left n m s true true is at e u c i low = absurd (cc)

out_free : (s : State) → Out s → is_free s ≡ true
out_free s done = subst (λ (z : Option ℕ × List Job). (is_none z.0 && is_none (own_of z.1)) ≡ true) (λ i. (sym done.gen i, sym done.running i)) refl

pub complete : (terms : Terms) (es : List Event) → Lawful terms es → is_finished (run terms es) ≡ true → Complete (run terms es) es
complete terms es l end =
    let s = run terms es in
    let done = finished_is s end in
    let f : Cover terms.units (λ x. 0) (first terms) = record { bar = omega arith; below = λ b. absurd (omega arith); there = λ i a b. absurd (omega arith) } in
    let r = run_from-cover terms.keep terms.units (λ x. 0) (opened terms) es (ap (λ (t : Terms). t.keep) (opened-terms terms)) l (opened-held terms) (decided-cover terms.units (λ x. 0) true (first terms) f) (decided-settled true (first terms)) in
    let free = out_free s done in
    let rest : (s.queue ≡ []) × (may_generate s ≡ false) = ⊎_elim (λ (z : is_free s ≡ false). absurd (cc)) (λ (z : (s.queue ≡ []) × (may_generate s ≡ false)). z) r.1 in
    let u = (run-held terms es l).units in
    record {
      running = done.running;
      gen = done.gen;
      asking = done.asking;
      giving = done.giving;
      queue = rest.0;
      rest = rest.1;
      covered = λ i low.
          subst (λ (b : Bool). 1 ≤ times i (covered b es)) (sym (ap (λ (t : Terms). t.keep) (run-terms terms es))) (
          let next = nothing_left terms.units _ s (ltb s.next s.terms.units) (eqb s.bar s.terms.units) refl refl rest.1 u r.0 i low in
          let t = r.0.there i low next in
          let a : times_some i s.gen ≡ 0 = ap (times_some i) done.gen in
          let b : queued_at i s.queue ≡ 0 = ap (queued_at i) rest.0 in
          let c : running_at i s.running ≡ 0 = ap (running_at i) done.running in
          omega arith);
    }
