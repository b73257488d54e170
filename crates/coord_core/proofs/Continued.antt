-- A lawful run that goes on by one awaited event.
use Rattle.std.proofs.Common.{◌≡◌, ℕ, ◌*◌, ◌<◌, ◌≤◌, true, List, [], ◌∷◌, ◌++◌, length, length-append, Option, sym, refl, ap, ◌∙◌, subst, arith}
use Rattle.coord_core.specs.declared.event.Event.{Event}
use Rattle.coord_core.specs.declared.terms.Terms.{Terms}
use Rattle.coord_core.specs.State.{State, one_some}
use Rattle.coord_core.specs.Effect.{effect}
use Rattle.coord_core.specs.Decide.{may_ask, actions_of}
use Rattle.coord_core.specs.Run.{opened, step, run_from, run, is_awaited, LawfulFrom, Lawful}
use Rattle.coord_core.specs.Laws.{Bounded, Fits, GoesOn, gen_or}
use Rattle.coord_core.specs.Core.{IsCore}
use Rattle.coord_core.specs.Journal.{failed_by, failed, lesser_by, least}
use Rattle.coord_core.proofs.Acted.{acted, units_are}
use Rattle.coord_core.proofs.Sound.{bounded_by, effect-sound, run-sound, run-spare}
use Rattle.coord_core.proofs.Hand.{effect-next, step-terms, run-terms}
use Rattle.coord_core.proofs.Bar.{failure-after}
use Rattle.coord_core.proofs.Budget.{room, fits, gen-count}

run_from-snoc : (s : State) (es : List Event) (e : Event) → run_from s (es ++ e ∷ []) ≡ step (run_from s es) e
run_from-snoc s [] e = refl
run_from-snoc s (x ∷ xs) e = run_from-snoc (step s x) xs e

lawful_from-snoc : (s : State) (es : List Event) (e : Event) → LawfulFrom s es → is_awaited (run_from s es) e ≡ true → LawfulFrom s (es ++ e ∷ [])
lawful_from-snoc s [] e l out = (out, tt)
lawful_from-snoc s (x ∷ xs) e l out = (l.0, lawful_from-snoc (step s x) xs e l.1 out)

pub run-snoc : (terms : Terms) (es : List Event) (e : Event) → run terms (es ++ e ∷ []) ≡ step (run terms es) e
run-snoc terms es e = run_from-snoc (opened terms) es e

module _ (terms : Terms) (es : List Event) (e : Event) (l : Lawful terms es) (out : is_awaited (run terms es) e ≡ true) where
  pub lawful-snoc : Lawful terms (es ++ e ∷ [])
  lawful-snoc = lawful_from-snoc (opened terms) es e l out

  pub goes_on : GoesOn terms es e
  goes_on = record { lawful = lawful-snoc; run = run-snoc terms es e }

  pub bounded-told : 0 < terms.lanes → Bounded (effect e (run terms es)).terms.lanes (effect e (run terms es))
  bounded-told some =
      let s = effect-sound terms.lanes e (run terms es) out (run-spare terms es) (run-sound terms es some l) in
      subst (λ (k : ℕ). Bounded k (effect e (run terms es))) (sym s.lanes_is) (bounded_by terms.lanes (effect e (run terms es)) s)

  fits-step : Fits terms.units (step (run terms es) e)
  fits-step = subst (λ (s : State). Fits terms.units s) (run-snoc terms es e) (fits terms (es ++ e ∷ []) lawful-snoc)

  terms-told : (effect e (run terms es)).terms ≡ terms
  terms-told = (effect-next e (run terms es)).1 ∙ run-terms terms es

  units-told : (effect e (run terms es)).terms.units ≡ terms.units
  units-told = units_are terms-told

  -- what the decisions leave has room, so what they began with had
  pub fits-told : Fits (effect e (run terms es)).terms.units (effect e (run terms es))
  fits-told =
      let t = effect e (run terms es) in
      let a = acted (may_ask e) t in
      let f = fits-step in
      let f0 = f.queue in let f1 = f.giving in
      let a0 = a.count in let a1 = a.queue_count in let a2 = a.bytes in let u = units-told in
      let g : one_some (step (run terms es) e).gen ≡ one_some (gen_or (actions_of (may_ask e) t).main t.gen) = ap one_some a.gen in
      let c = (gen-count (actions_of (may_ask e) t).main t.gen t.next t.terms.units (λ i is. let b = a.begun i is in (b.1, b.0, b.2))).0 in
      record { queue = omega arith; giving = omega arith }

  pub room-told : length es < 8 * terms.units
  room-told = let r = room terms (es ++ e ∷ []) lawful-snoc in let a = length-append es (e ∷ []) in omega arith

  pub terms-step : (step (run terms es) e).terms ≡ terms
  terms-step = step-terms (run terms es) e ∙ run-terms terms es

  pub core-told : 0 < terms.lanes → terms.lanes ≤ 64 → (capacity : ℕ) → 8 * terms.units ≤ capacity → (failure : Option ℕ) → failure ≡ least (failed es) → IsCore (step (run terms es) e) (lesser_by (failed_by e) failure) (es ++ e ∷ []) capacity
  core-told some most capacity large failure is =
      let t = step (run terms es) e in
      let u = units_are terms-step in
      let k : t.terms.lanes ≡ terms.lanes = ap (λ (o : Terms). o.lanes) terms-step in
      record {
        state = sym (run-snoc terms es e) ∙ ap (λ (o : Terms). run o (es ++ e ∷ [])) (sym terms-step);
        lawful = subst (λ (o : Terms). Lawful o (es ++ e ∷ [])) (sym terms-step) lawful-snoc;
        failure_is = ap (lesser_by (failed_by e)) is ∙ sym (failure-after es e);
        some_lane = omega arith;
        most_lanes = omega arith;
        room = omega arith;
      }
