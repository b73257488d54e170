-- What the decisions change, by the actions that they answer.
use Rattle.std.proofs.Common.{◌≡◌, ℕ, ◌+◌, ◌<◌, eqb, ltb, Bool, true, false, ◌&&◌, ◌||◌, List, [], ◌∷◌, ◌++◌, length, Option, Some, None, option_to_list, sym, refl, ap, ◌∙◌, arith, length-append}
use Rattle.std.proofs.lemmas.Bool.{ltb-true, eqb-true, and_parts}
use Rattle.counting.specs.Count.{one_if, times}
use Rattle.counting.proofs.Count.{total-snoc, times-snoc, times-append}
use Rattle.coord_core.specs.declared.event.Main.{Main}
use Rattle.coord_core.specs.declared.event.Main.TheVariants.{Idle, Generate}
use Rattle.coord_core.specs.declared.job.Job.{Job}
use Rattle.coord_core.specs.declared.queue.Queued.{Queued}
use Rattle.coord_core.specs.declared.terms.Terms.{Terms}
use Rattle.coord_core.specs.State.{State, one_some, times_some, running_at, queued_at, bytes_in, byte_at, own_of}
use Rattle.coord_core.specs.Decide.{may_generate, more_to_do, is_free, passed, pass, started, start, start_by, gives, lends, main_by, main, lend_by, main_act, is_to_generate, asks_now, asked, settled, decided, actions_of}
use Rattle.coord_core.specs.Journal.{begun_by, lent_by, unit_by}
use Rattle.coord_core.specs.Laws.{gen_or, Acted}
use Rattle.coord_core.proofs.Jobs.{none_is, running_at-paid_by, length-paid_by, paid_by-owns, paid_at-paid_by}

-- what one decision changes: it starts these jobs, gives these bytes and begins this
record Moved (s t : State) (due given : List ℕ) (begins : Main) (asks : Bool) : Type 0 where
  running : (x : ℕ) → running_at x t.running ≡ running_at x s.running + times x due
  count : length t.running ≡ length s.running + length due
  queue : (x : ℕ) → queued_at x t.queue + times x due ≡ queued_at x s.queue
  queue_count : length t.queue + length due ≡ length s.queue
  giving : t.giving ≡ s.giving ++ given
  gen : t.gen ≡ gen_or begins s.gen
  next : t.next ≡ s.next + length (begun_by begins)
  asking : t.asking ≡ (s.asking || asks)
  bytes : bytes_in t ≡ bytes_in s
  byte : (x : ℕ) → byte_at x t ≡ byte_at x s
  terms : t.terms ≡ s.terms
  bar : t.bar ≡ s.bar

pub units_are : {t u : Terms} → t ≡ u → t.units ≡ u.units
units_are e = ap (λ (k : Terms). k.units) e

append-nil : (l : List ℕ) → l ≡ l ++ []
append-nil [] = refl
append-nil (x ∷ xs) = ap (λ t. x ∷ t) (append-nil xs)

or_false : (b : Bool) → b ≡ (b || false)
or_false true = refl
or_false false = refl

or_true : (b : Bool) → true ≡ (b || true)
or_true true = refl
or_true false = refl

still : (s : State) → Moved s s [] [] Idle false
still s = record { running = λ x. omega arith; count = omega arith; queue = λ x. omega arith; queue_count = omega arith; giving = append-nil s.giving; gen = refl; next = omega arith; asking = or_false s.asking; bytes = refl; byte = λ x. refl; terms = refl; bar = refl }

passed-moved : (s : State) (b o : Option ℕ) (w : Bool) → s.spare ≡ b → own_of s.running ≡ o → Moved s (passed s b o w) [] [] Idle false
passed-moved s (Some b) (Some i) true is own =
    let c = paid_by-owns b s.running i own in
    let e : one_some s.spare ≡ 1 = ap one_some is in
    let l = length-paid_by b s.running in
    record {
      running = λ x. let z = running_at-paid_by x b s.running in omega arith;
      count = omega arith;
      queue = λ x. omega arith;
      queue_count = omega arith;
      giving = append-nil s.giving;
      gen = refl;
      next = omega arith;
      asking = or_false s.asking;
      bytes = omega arith;
      byte = λ x. let z = paid_at-paid_by x b s.running i own in let y : times_some x s.spare ≡ one_if (eqb x b) = ap (times_some x) is in omega arith;
      terms = refl;
      bar = refl;
    }
passed-moved s (Some b) (Some i) false is own = still s
passed-moved s (Some b) None w is own = still s
passed-moved s None o w is own = still s

started-moved : (s : State) (b : Option ℕ) (q : List Queued) → s.spare ≡ b → s.queue ≡ q → Moved s (started s b q) (unit_by (start_by b q)) [] Idle false
started-moved s (Some b) (e ∷ es) is at =
    let j : Job = record { unit = e.unit; payer = Some b } in
    let p = total-snoc (λ (k : Job). one_some k.payer) s.running j in
    let o : one_some s.spare ≡ 1 = ap one_some is in
    let l = length-append s.running (j ∷ []) in
    let n : length s.queue ≡ length (e ∷ es) = ap (λ (z : List Queued). length z) at in
    record {
      running = λ x. let z = total-snoc (λ (k : Job). one_if (eqb x k.unit)) s.running j in omega arith;
      count = omega arith;
      queue = λ x. let z : queued_at x s.queue ≡ one_if (eqb x e.unit) + queued_at x es = ap (queued_at x) at in omega arith;
      queue_count = omega arith;
      giving = append-nil s.giving;
      gen = refl;
      next = omega arith;
      asking = or_false s.asking;
      bytes = omega arith;
      byte = λ x. let z = total-snoc (λ (k : Job). times_some x k.payer) s.running j in let w : times_some x s.spare ≡ one_if (eqb x b) = ap (times_some x) is in omega arith;
      terms = refl;
      bar = refl;
    }
started-moved s (Some b) [] is at = still s
started-moved s None q is at = still s

gives-moved : (s : State) (b : Option ℕ) → s.spare ≡ b → Moved s (gives s b) [] (option_to_list b) Idle false
gives-moved s (Some b) is =
    let e : one_some s.spare ≡ 1 = ap one_some is in
    let l = length-append s.giving (b ∷ []) in
    record {
      running = λ x. omega arith;
      count = omega arith;
      queue = λ x. omega arith;
      queue_count = omega arith;
      giving = refl;
      gen = refl;
      next = omega arith;
      asking = or_false s.asking;
      bytes = omega arith;
      byte = λ x. let z = times-snoc x b s.giving in let y : times_some x s.spare ≡ one_if (eqb x b) = ap (times_some x) is in omega arith;
      terms = refl;
      bar = refl;
    }
gives-moved s None is = still s

lends-moved : (s : State) (q : List Queued) → s.queue ≡ q → Moved s (lends s q) (lent_by (lend_by q)) [] (lend_by q) false
lends-moved s (e ∷ es) at =
    let j : Job = record { unit = e.unit; payer = None } in
    let p = total-snoc (λ (k : Job). one_some k.payer) s.running j in
    let l = length-append s.running (j ∷ []) in
    let n : length s.queue ≡ length (e ∷ es) = ap (λ (z : List Queued). length z) at in
    record {
      running = λ x. let z = total-snoc (λ (k : Job). one_if (eqb x k.unit)) s.running j in omega arith;
      count = omega arith;
      queue = λ x. let z : queued_at x s.queue ≡ one_if (eqb x e.unit) + queued_at x es = ap (queued_at x) at in omega arith;
      queue_count = omega arith;
      giving = append-nil s.giving;
      gen = refl;
      next = omega arith;
      asking = or_false s.asking;
      bytes = omega arith;
      byte = λ x. let z = total-snoc (λ (k : Job). times_some x k.payer) s.running j in omega arith;
      terms = refl;
      bar = refl;
    }
lends-moved s [] at = still s

main-moved : (s : State) (f g : Bool) → Moved s (main_by s f g) (lent_by (main_act s f g)) [] (main_act s f g) false
main-moved s false g = still s
main-moved s true true = record { running = λ x. omega arith; count = omega arith; queue = λ x. omega arith; queue_count = omega arith; giving = append-nil s.giving; gen = refl; next = omega arith; asking = or_false s.asking; bytes = refl; byte = λ x. refl; terms = refl; bar = refl }
main-moved s true false = lends-moved s s.queue refl

asked-moved : (s : State) (b : Bool) → Moved s (asked s b) [] [] Idle b
asked-moved s true = record { running = λ x. omega arith; count = omega arith; queue = λ x. omega arith; queue_count = omega arith; giving = append-nil s.giving; gen = refl; next = omega arith; asking = or_true s.asking; bytes = refl; byte = λ x. refl; terms = refl; bar = refl }
asked-moved s false = still s

-- a generation is begun where none runs, of the next unit, while none failed
abbrev Begins : State → Main → Type 0
Begins s m = (i : ℕ) → m ≡ Generate i → (i ≡ s.next) × (s.gen ≡ None) × (i < s.terms.units) × (s.bar ≡ s.terms.units)

generate_is : (i k : ℕ) → Generate i ≡ Generate k → i ≡ k
generate_is i k e = cc

may_generates : (s : State) → may_generate s ≡ true → (s.next < s.terms.units) × (s.bar ≡ s.terms.units)
may_generates s h = let p = and_parts (ltb s.next s.terms.units) (eqb s.bar s.terms.units) h in (ltb-true s.next s.terms.units p.0, eqb-true s.bar s.terms.units p.1)

main-begins : (s : State) (f g : Bool) → is_free s ≡ f → is_to_generate s ≡ g → Begins s (main_act s f g)
main-begins s false g ef eg i e = absurd (cc)
main-begins s true true ef eg i e =
    let m = may_generates s ((and_parts _ _ eg).0) in
    let k = generate_is s.next i e in
    let l = m.0 in
    (sym k, none_is s.gen ((and_parts _ _ ef).0), omega arith, m.1)
main-begins s true false ef eg i e = none_begun s.queue e
  where
    none_begun : (q : List Queued) → lend_by q ≡ Generate i → (i ≡ s.next) × (s.gen ≡ None) × (i < s.terms.units) × (s.bar ≡ s.terms.units)
    none_begun [] e = absurd (cc)
    none_begun (x ∷ xs) e = absurd (cc)

pub decided-spare : (may : Bool) (s : State) → (decided may s).spare ≡ None
decided-spare may s = asked-none (main (settled s)) (may && asks_now (main (settled s))) (main-none (settled s) (is_free (settled s)) (is_to_generate (settled s)) (gives-none (start (pass s)) (start (pass s)).spare refl))
  where
    gives-none : (s : State) (b : Option ℕ) → s.spare ≡ b → (gives s b).spare ≡ None
    gives-none s (Some b) is = refl
    gives-none s None is = is

    lends-none : (s : State) (q : List Queued) → s.spare ≡ None → (lends s q).spare ≡ None
    lends-none s [] is = is
    lends-none s (x ∷ xs) is = is

    main-none : (s : State) (f g : Bool) → s.spare ≡ None → (main_by s f g).spare ≡ None
    main-none s false g is = is
    main-none s true true is = is
    main-none s true false is = lends-none s s.queue is

    asked-none : (s : State) (b : Bool) → s.spare ≡ None → (asked s b).spare ≡ None
    asked-none s true is = is
    asked-none s false is = is

pub acted : (may : Bool) (s : State) → Acted s (decided may s) (actions_of may s)
acted may s =
    let p = passed-moved s s.spare (own_of s.running) (more_to_do s) refl refl in
    let s1 = pass s in
    let q = started-moved s1 s1.spare s1.queue refl refl in
    let s2 = start s1 in
    let g = gives-moved s2 s2.spare refl in
    let s3 = settled s in
    let m = main-moved s3 (is_free s3) (is_to_generate s3) in
    let s4 = main s3 in
    let a = asked-moved s4 (may && asks_now s4) in
    let n0 = p.next in let n1 = q.next in let n2 = g.next in
    let due = actions_of may s in
    let l = length-append (unit_by due.start) (lent_by due.main) in
    record {
      running = λ x. let r0 = p.running x in let r1 = q.running x in let r2 = g.running x in let r3 = m.running x in let r4 = a.running x in let t = times-append x (unit_by due.start) (lent_by due.main) in omega arith;
      count = let r0 = p.count in let r1 = q.count in let r2 = g.count in let r3 = m.count in let r4 = a.count in omega arith;
      queue = λ x. let r0 = p.queue x in let r1 = q.queue x in let r2 = g.queue x in let r3 = m.queue x in let r4 = a.queue x in let t = times-append x (unit_by due.start) (lent_by due.main) in omega arith;
      queue_count = let r0 = p.queue_count in let r1 = q.queue_count in let r2 = g.queue_count in let r3 = m.queue_count in let r4 = a.queue_count in omega arith;
      giving = a.giving ∙ sym (append-nil s4.giving) ∙ m.giving ∙ sym (append-nil s3.giving) ∙ g.giving ∙ ap (λ l. l ++ option_to_list s2.spare) (q.giving ∙ sym (append-nil s1.giving) ∙ p.giving ∙ sym (append-nil s.giving));
      gen = a.gen ∙ m.gen ∙ ap (gen_or due.main) (g.gen ∙ q.gen ∙ p.gen);
      begun = λ i e. let b = main-begins s3 (is_free s3) (is_to_generate s3) refl refl i e in let b0 = b.0 in let b2 = b.2 in let u0 = units_are p.terms in let u1 = units_are q.terms in let u2 = units_are g.terms in let r0 = p.bar in let r1 = q.bar in let r2 = g.bar in let b3 = b.3 in
          (omega arith, sym p.gen ∙ sym q.gen ∙ sym g.gen ∙ b.1, omega arith, omega arith);
      next = let r3 = m.next in let r4 = a.next in omega arith;
      asking = a.asking ∙ ap (λ b. b || due.ask) (m.asking ∙ sym (or_false s3.asking) ∙ g.asking ∙ sym (or_false s2.asking) ∙ q.asking ∙ sym (or_false s1.asking) ∙ p.asking ∙ sym (or_false s.asking));
      bytes = let r0 = p.bytes in let r1 = q.bytes in let r2 = g.bytes in let r3 = m.bytes in let r4 = a.bytes in omega arith;
      byte = λ x. let r0 = p.byte x in let r1 = q.byte x in let r2 = g.byte x in let r3 = m.byte x in let r4 = a.byte x in omega arith;
      spare = decided-spare may s;
      terms = a.terms ∙ m.terms ∙ g.terms ∙ q.terms ∙ p.terms;
      bar = a.bar ∙ m.bar ∙ g.bar ∙ q.bar ∙ p.bar;
    }
