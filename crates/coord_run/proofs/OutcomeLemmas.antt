-- What the events tell of the units, with one event more.
use Rattle.std.proofs.Common.{◌≡◌, ℕ, ◌+◌, ◌<◌, ◌≤◌, eqb, Bool, true, false, cond, List, [], ◌∷◌, ◌++◌, length, slice_set, Option, Some, None, unwrap_or, MatchOption, ◌⊎◌, ⊎_elim, sym, refl, ap, ◌∙◌, subst, arith}
use Rattle.std.proofs.lemmas.Bool.{eqb-true, eq-eqb, cases_order}
use Rattle.std.proofs.lemmas.List.{get_or-set_same, get_or-set_other}
use Rattle.std.proofs.lemmas.List.Elements.{filter-append}
use Rattle.counting.specs.Count.{one_if, times}
use Rattle.counting.proofs.Count.{times-append}
use Rattle.coord_core.specs.declared.terms.Terms.{Terms}
use Rattle.coord_core.specs.declared.event.Event.{Event}
use Rattle.coord_core.specs.declared.event.Event.TheVariants.{Took, Empty, TakeFault, Generated, GenFailed, Made, MakeFailed, Wanted, Gave, GiveFault}
use Rattle.coord_core.specs.Run.{run, Lawful, is_finished}
use Rattle.coord_core.specs.Journal.{made_by, failed_by, covered_by, covered, lowered_by, lowered, least}
use Rattle.coord_core.specs.Laws.{IsLeast}
use Rattle.coord_core.proofs.Hand.{run-terms}
use Rattle.coord_core.proofs.Bar.{barred, least-is}
use Rattle.coord_core.proofs.Cover.{complete}
use Rattle.coord_run.specs.declared.driven.Made.{Made as Outcome}
use Rattle.coord_run.specs.declared.driven.Made.TheVariants.{Skipped as Outcome-Skipped}
use Rattle.coord_run.specs.Meaning.{Meaning}
use Rattle.coord_run.specs.Outcomes.{is_outcome_of, outcomes_of, IsAfter, outcome_at, Tells, TellsOne}

outcomes-other : (x : ℕ) (es : List Event) (e : Event) → is_outcome_of x e ≡ false → outcomes_of x (es ++ e ∷ []) ≡ outcomes_of x es
outcomes-other x es e not = filter-append (is_outcome_of x) es (e ∷ []) ∙ ap (λ (b : Bool). outcomes_of x es ++ cond b (e ∷ []) []) not ∙ none (outcomes_of x es)
  where
    none : (l : List Event) → l ++ [] ≡ l
    none [] = refl
    none (y ∷ ys) = ap (λ (t : List Event). y ∷ t) (none ys)

outcomes-one : (x : ℕ) (es : List Event) (e : Event) → is_outcome_of x e ≡ true → outcomes_of x es ≡ [] → outcomes_of x (es ++ e ∷ []) ≡ e ∷ []
outcomes-one x es e is none = filter-append (is_outcome_of x) es (e ∷ []) ∙ ap (λ (b : Bool). outcomes_of x es ++ cond b (e ∷ []) []) is ∙ ap (λ (l : List Event). l ++ e ∷ []) none

module _ {P F : Type 0} where
  -- an event that is no outcome
  pub tells-plain : (m : Meaning P F) (es : List Event) (e : Event) (os : List (Outcome F)) → ((x : ℕ) → is_outcome_of x e ≡ false) → ((x : ℕ) → TellsOne m x (outcomes_of x es) (outcome_at os x))
      → (x : ℕ) → TellsOne m x (outcomes_of x (es ++ e ∷ [])) (outcome_at os x)
  tells-plain m es e os not h x = subst (λ (l : List Event). TellsOne m x l (outcome_at os x)) (sym (outcomes-other x es e (not x))) (h x)

  -- the outcome of unit i, which had none
  pub tells-settled : (m : Meaning P F) (es : List Event) (e : Event) (i : ℕ) (os : List (Outcome F)) (o : Outcome F) → ((x : ℕ) → is_outcome_of x e ≡ eqb x i) → outcomes_of i es ≡ [] → i < length os → Tells m i e o → ((x : ℕ) → TellsOne m x (outcomes_of x es) (outcome_at os x))
      → (x : ℕ) → TellsOne m x (outcomes_of x (es ++ e ∷ [])) (outcome_at (slice_set os i o) x)
  tells-settled m es e i os o of none low tells h x = by (eqb x i) refl
    where
      by : (t : Bool) → eqb x i ≡ t → TellsOne m x (outcomes_of x (es ++ e ∷ [])) (outcome_at (slice_set os i o) x)
      by true is =
          let same : i ≡ x = sym (eqb-true x i is) in
          let at : outcomes_of i (es ++ e ∷ []) ≡ e ∷ [] = outcomes-one i es e (of i ∙ eq-eqb i i refl) none in
          subst (λ (k : ℕ). TellsOne m k (outcomes_of k (es ++ e ∷ [])) (outcome_at (slice_set os i o) k)) same
          (subst (λ (l : List Event). TellsOne m i l (outcome_at (slice_set os i o) i)) (sym at)
          (subst (λ (z : Outcome F). Tells m i e z) (sym (get_or-set_same os i o Outcome-Skipped low)) tells))
      by false is =
          subst (λ (l : List Event). TellsOne m x l (outcome_at (slice_set os i o) x)) (sym (outcomes-other x es e (of x ∙ is)))
          (subst (λ (z : Outcome F). TellsOne m x (outcomes_of x es) z) (sym (get_or-set_other os i x o Outcome-Skipped (λ q. absurd (let z = eq-eqb x i q in cc)))) (h x))

  -- a skipped unit has no outcome
  skipped-none : (m : Meaning P F) (x : ℕ) (l : List Event) → TellsOne m x l Outcome-Skipped → length l ≡ 0
  skipped-none m x [] h = refl
  skipped-none m x (Took b ∷ []) h = absurd h
  skipped-none m x (Empty ∷ []) h = absurd h
  skipped-none m x (TakeFault ∷ []) h = absurd h
  skipped-none m x (Generated i c ∷ []) h = absurd h
  skipped-none m x (GenFailed i ∷ []) h = absurd h
  skipped-none m x (Made i ∷ []) h = absurd h
  skipped-none m x (MakeFailed i ∷ []) h = absurd h
  skipped-none m x (Wanted i ∷ []) h = absurd h
  skipped-none m x (Gave b ∷ []) h = absurd h
  skipped-none m x (GiveFault b ∷ []) h = absurd h
  skipped-none m x (e ∷ e' ∷ es) h = absurd h

one-of : (b : Bool) (e : Event) → length (cond b (e ∷ []) []) ≡ one_if b
one-of true e = refl
one-of false e = refl

-- a unit's outcomes are those that made it and those that failed
outcome-parts : (x : ℕ) (e : Event) → times x (made_by e) + times x (failed_by e) ≡ length (outcomes_of x (e ∷ []))
outcome-parts x (Made i) = let o = one-of (eqb x i) (Made i) in omega arith
outcome-parts x (GenFailed i) = let o = one-of (eqb x i) (GenFailed i) in omega arith
outcome-parts x (MakeFailed i) = let o = one-of (eqb x i) (MakeFailed i) in omega arith
outcome-parts x (Wanted i) = let o = one-of (eqb x i) (Wanted i) in omega arith
outcome-parts x (Took b) = refl
outcome-parts x Empty = refl
outcome-parts x TakeFault = refl
outcome-parts x (Generated i c) = refl
outcome-parts x (Gave b) = refl
outcome-parts x (GiveFault b) = refl

-- of the units that need no more and those that lowered the bar, each has an outcome
covered-le : (k : Bool) (x : ℕ) (es : List Event) → times x (covered k es) + times x (lowered k es) ≤ length (outcomes_of x es)
covered-le k x [] = omega arith
covered-le k x (e ∷ es) =
    let h = covered-le k x es in let p = one k e in
    let a = times-append x (covered_by k e) (covered k es) in let b = times-append x (lowered_by k e) (lowered k es) in
    let c = by (is_outcome_of x e) in omega arith
  where
    by : (b : Bool) → length (cond b (e ∷ outcomes_of x es) (outcomes_of x es)) ≡ length (cond b (e ∷ []) []) + length (outcomes_of x es)
    by true = omega arith
    by false = omega arith

    one : (k : Bool) (e : Event) → times x (covered_by k e) + times x (lowered_by k e) ≤ length (outcomes_of x (e ∷ []))
    one false e = let o = outcome-parts x e in omega arith
    one true (Made i) = let o = one-of (eqb x i) (Made i) in omega arith
    one true (GenFailed i) = let o = one-of (eqb x i) (GenFailed i) in omega arith
    one true (MakeFailed i) = let o = one-of (eqb x i) (MakeFailed i) in omega arith
    one true (Wanted i) = let o = one-of (eqb x i) (Wanted i) in omega arith
    one true (Took b) = omega arith
    one true Empty = omega arith
    one true TakeFault = omega arith
    one true (Generated i c) = omega arith
    one true (Gave b) = omega arith
    one true (GiveFault b) = omega arith

-- x needs more and did not lower the bar, and all below the bar need no more
after-bar : (o : Option ℕ) (bar n x : ℕ) (covered lowered : List ℕ) → bar ≡ unwrap_or o n → MatchOption o (lowered ≡ []) (IsLeast lowered) → x < n → times x covered ≡ 0 → times x lowered ≡ 0 → ((i : ℕ) → i < bar → 1 ≤ times i covered) → IsAfter o x
after-bar None bar n x covered lowered is h low none fails below = let k = below x (omega arith) in absurd (omega arith)
after-bar (Some b) bar n x covered lowered is h low none fails below = ⊎_elim same (λ (other : (x < b) ⊎ (b < x)). ⊎_elim less (λ (more : b < x). more) other) (cases_order x b)
  where
    same : x ≡ b → b < x
    same e = let k = h.among in let z : times x lowered ≡ times b lowered = ap (λ (i : ℕ). times i lowered) e in absurd (omega arith)

    less : x < b → b < x
    less l = let k = below x (omega arith) in absurd (omega arith)

module _ {P F : Type 0} where
  -- in a finished run a skipped unit is after the least one whose failure lowered the bar
  pub skipped-after : (m : Meaning P F) (terms : Terms) (es : List Event) (x : ℕ) → Lawful terms es → is_finished (run terms es) ≡ true → x < terms.units → TellsOne m x (outcomes_of x es) Outcome-Skipped → IsAfter (least (lowered terms.keep es)) x
  skipped-after m terms es x l end low skipped =
      let none = skipped-none m x (outcomes_of x es) skipped in
      let p = covered-le terms.keep x es in
      after-bar (least (lowered terms.keep es)) (run terms es).bar terms.units x (covered terms.keep es) (lowered terms.keep es) (barred terms es l).bar (least-is (lowered terms.keep es)) low (omega arith) (omega arith)
      (λ i below. subst (λ (k : Bool). 1 ≤ times i (covered k es)) (ap (λ (t : Terms). t.keep) (run-terms terms es)) ((complete terms es l end).covered i below))
