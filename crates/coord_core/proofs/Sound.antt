-- The bound is kept by every event and decision.
use Rattle.std.proofs.Common.{◌≡◌, ℕ, ◌+◌, ◌<◌, ◌≤◌, Bool, true, false, ◌&&◌, ◌||◌, List, [], ◌∷◌, Option, Some, None, is_none, sym, refl, ap, ◌∙◌, arith}
use Rattle.std.proofs.lemmas.Bool.{ltb-true, and_parts}
use Rattle.counting.specs.Count.{one_if}
use Rattle.counting.proofs.Count.{total-snoc}
use Rattle.coord_core.specs.declared.event.Event.{Event}
use Rattle.coord_core.specs.declared.event.Event.TheVariants.{Took, Empty, TakeFault, Generated, GenFailed, Made, MakeFailed, Wanted, Gave, GiveFault}
use Rattle.coord_core.specs.declared.job.Job.{Job}
use Rattle.coord_core.specs.declared.queue.Queued.{Queued}
use Rattle.coord_core.specs.declared.terms.Terms.{Terms}
use Rattle.coord_core.specs.State.{State, one_some, owns, payers, own_of, is_gen, runs}
use Rattle.coord_core.specs.Effect.{cut, ended, gen_ended, wanted, effect}
use Rattle.coord_core.specs.Decide.{more_to_do, is_free, passed, pass, started, start, gives, lends, main_by, main, is_to_generate, may_ask, asks_now, asked, settled, decided}
use Rattle.coord_core.specs.Run.{first, opened, step, run_from, run, is_awaited, LawfulFrom, Lawful}
use Rattle.coord_core.specs.Laws.{Bounded}
use Rattle.coord_core.proofs.Jobs.{none_is, length-jobs, owns-none, paid_by-owns, owns-without, payers-without}
use Rattle.coord_core.proofs.Acted.{decided-spare}

pub record Sound (lanes : ℕ) (s : State) : Type 0 where
  pub lanes_is : s.terms.lanes ≡ lanes
  pub own : owns s.running + one_some s.gen ≤ 1
  pub held : payers s.running + one_some s.spare + one_if s.asking + 1 ≤ lanes

pub bounded_by : (l : ℕ) (s : State) → Sound l s → Bounded l s
bounded_by l s h = let c = length-jobs s.running in let a = h.own in record { own = h.own; out = omega arith; held = h.held }

pub passed-sound : (l : ℕ) (s : State) (b o : Option ℕ) (w : Bool) → s.spare ≡ b → own_of s.running ≡ o → Sound l s → Sound l (passed s b o w)
passed-sound l s (Some b) (Some i) true is own h = let c = paid_by-owns b s.running i own in let a = h.own in let k = h.held in let e : one_some s.spare ≡ 1 = ap one_some is in record { lanes_is = h.lanes_is; own = omega arith; held = omega arith }
passed-sound l s (Some b) (Some i) false is own h = h
passed-sound l s (Some b) None w is own h = h
passed-sound l s None o w is own h = h

pub started-sound : (l : ℕ) (s : State) (b : Option ℕ) (q : List Queued) → s.spare ≡ b → Sound l s → Sound l (started s b q)
started-sound l s (Some b) (x ∷ xs) is h =
    let j : Job = record { unit = x.unit; payer = Some b } in
    let a = total-snoc (λ (k : Job). one_if (is_none k.payer)) s.running j in
    let p = total-snoc (λ (k : Job). one_some k.payer) s.running j in
    let c = h.own in let k = h.held in let e : one_some s.spare ≡ 1 = ap one_some is in
    record { lanes_is = h.lanes_is; own = omega arith; held = omega arith }
started-sound l s (Some b) [] is h = h
started-sound l s None q is h = h

pub gives-sound : (l : ℕ) (s : State) (b : Option ℕ) → s.spare ≡ b → Sound l s → Sound l (gives s b)
gives-sound l s (Some b) is h = let k = h.held in record { lanes_is = h.lanes_is; own = h.own; held = omega arith }
gives-sound l s None is h = h

lends-sound : (l : ℕ) (s : State) (q : List Queued) → owns s.running ≡ 0 → one_some s.gen ≡ 0 → Sound l s → Sound l (lends s q)
lends-sound l s (x ∷ xs) own gen h =
    let j : Job = record { unit = x.unit; payer = None } in
    let a = total-snoc (λ (k : Job). one_if (is_none k.payer)) s.running j in
    let p = total-snoc (λ (k : Job). one_some k.payer) s.running j in
    let k = h.held in record { lanes_is = h.lanes_is; own = omega arith; held = omega arith }
lends-sound l s [] own gen h = h

pub free-owns : (s : State) → is_free s ≡ true → (owns s.running ≡ 0) × (one_some s.gen ≡ 0)
free-owns s h = let both = and_parts (is_none s.gen) (is_none (own_of s.running)) h in (owns-none s.running (none_is (own_of s.running) both.1), ap one_some (none_is s.gen both.0))

main-sound : (l : ℕ) (s : State) (f g : Bool) → is_free s ≡ f → Sound l s → Sound l (main_by s f g)
main-sound l s false g is h = h
main-sound l s true true is h = let c = free-owns s is in record { lanes_is = h.lanes_is; own = omega arith; held = h.held }
main-sound l s true false is h = let c = free-owns s is in lends-sound l s s.queue c.0 c.1 h

ask_room : (s : State) → asks_now s ≡ true → payers s.running + 1 < s.terms.lanes
ask_room s h = ltb-true (payers s.running + 1) s.terms.lanes ((and_parts _ _ ((and_parts _ _ h).0)).1)

asked-sound : (l : ℕ) (may : Bool) (s : State) (b : Bool) → (may && asks_now s) ≡ b → s.spare ≡ None → Sound l s → Sound l (asked s b)
asked-sound l may s false is none h = h
asked-sound l may s true is none h =
    let room : payers s.running + 1 < s.terms.lanes = ask_room s ((and_parts may (asks_now s) is).1) in
    let e = h.lanes_is in
    let z : one_some s.spare ≡ 0 = ap one_some none in
    record { lanes_is = h.lanes_is; own = h.own; held = omega arith }

asked-spare : (s : State) (b : Bool) → (asked s b).spare ≡ s.spare
asked-spare s true = refl
asked-spare s false = refl

pub settled-sound : (l : ℕ) (s : State) → Sound l s → Sound l (settled s)
settled-sound l s h =
    let s1 = pass s in
    let s2 = start s1 in
    gives-sound l s2 s2.spare refl (started-sound l s1 s1.spare s1.queue refl (passed-sound l s s.spare (own_of s.running) (more_to_do s) refl refl h))

pub decided-sound : (l : ℕ) (may : Bool) (s : State) → Sound l s → Sound l (decided may s)
decided-sound l may s h =
    let s3 = settled s in
    let m = main-sound l s3 (is_free s3) (is_to_generate s3) refl (settled-sound l s h) in
    let s4 = main s3 in
    asked-sound l may s4 (may && asks_now s4) refl (sym (asked-spare s4 (may && asks_now s4)) ∙ decided-spare may s) m

cut-sound : (k : Bool) (l i : ℕ) (s : State) → Sound l s → Sound l (cut k i s)
cut-sound k l i s h = record { lanes_is = h.lanes_is; own = h.own; held = h.held }

ended-sound : (l i : ℕ) (s : State) → runs i s.running ≡ true → s.spare ≡ None → Sound l s → Sound l (ended i s)
ended-sound l i s out none h =
    let o = owns-without i s.running out in let p = payers-without i s.running out in
    let a = h.own in let k = h.held in let z : one_some s.spare ≡ 0 = ap one_some none in
    record { lanes_is = h.lanes_is; own = omega arith; held = omega arith }

gen_ended-sound : (l : ℕ) (s : State) → Sound l s → Sound l (gen_ended s)
gen_ended-sound l s h = let a = h.own in record { lanes_is = h.lanes_is; own = omega arith; held = h.held }

wanted-sound : (l i : ℕ) (s : State) (b : Bool) → (b || runs i s.running) ≡ true → s.spare ≡ None → Sound l s → Sound l (wanted b i s)
wanted-sound l i s true out none h = cut-sound false l i (gen_ended s) (gen_ended-sound l s h)
wanted-sound l i s false out none h = cut-sound false l i (ended i s) (ended-sound l i s out none h)

-- where an ask is answered by a byte, the byte stands for the ask
pub effect-sound : (l : ℕ) (e : Event) (s : State) → is_awaited s e ≡ true → s.spare ≡ None → Sound l s → Sound l (effect e s)
effect-sound l (Took b) s out none h = let k = h.held in let z : one_some s.spare ≡ 0 = ap one_some none in let o : one_if s.asking ≡ 1 = ap one_if out in record { lanes_is = h.lanes_is; own = h.own; held = omega arith }
effect-sound l Empty s out none h = let k = h.held in record { lanes_is = h.lanes_is; own = h.own; held = omega arith }
effect-sound l TakeFault s out none h = let k = h.held in record { lanes_is = h.lanes_is; own = h.own; held = omega arith }
effect-sound l (Generated i c) s out none h = let a = h.own in record { lanes_is = h.lanes_is; own = omega arith; held = h.held }
effect-sound l (GenFailed i) s out none h = cut-sound s.terms.keep l i (gen_ended s) (gen_ended-sound l s h)
effect-sound l (Made i) s out none h = ended-sound l i s out none h
effect-sound l (MakeFailed i) s out none h = cut-sound s.terms.keep l i (ended i s) (ended-sound l i s out none h)
effect-sound l (Wanted i) s out none h = wanted-sound l i s (is_gen i s.gen) out none h
effect-sound l (Gave b) s out none h = record { lanes_is = h.lanes_is; own = h.own; held = h.held }
effect-sound l (GiveFault b) s out none h = record { lanes_is = h.lanes_is; own = h.own; held = h.held }

pub run_from-spare : (s : State) (es : List Event) → s.spare ≡ None → (run_from s es).spare ≡ None
run_from-spare s [] none = none
run_from-spare s (e ∷ es) none = run_from-spare (step s e) es (decided-spare (may_ask e) (effect e s))

pub run-spare : (terms : Terms) (es : List Event) → (run terms es).spare ≡ None
run-spare terms es = run_from-spare (opened terms) es (decided-spare true (first terms))

run_from-sound : (l : ℕ) (s : State) (es : List Event) → LawfulFrom s es → Sound l s → s.spare ≡ None → Sound l (run_from s es)
run_from-sound l s [] lawful h none = h
run_from-sound l s (e ∷ es) lawful h none = run_from-sound l (step s e) es lawful.1 (decided-sound l (may_ask e) (effect e s) (effect-sound l e s lawful.0 none h)) (decided-spare (may_ask e) (effect e s))

pub first-sound : (terms : Terms) → 0 < terms.lanes → Sound terms.lanes (first terms)
first-sound terms some = record { lanes_is = refl; own = omega arith; held = omega arith }

pub run-sound : (terms : Terms) (es : List Event) → 0 < terms.lanes → Lawful terms es → Sound terms.lanes (run terms es)
run-sound terms es some lawful = run_from-sound terms.lanes (opened terms) es lawful (decided-sound terms.lanes true (first terms) (first-sound terms some)) (decided-spare true (first terms))
