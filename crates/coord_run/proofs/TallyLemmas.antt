-- How many jobs end in a session in which every unit is made.
use Rattle.std.proofs.Common.{◌≡◌, ◌⊎◌, ⊎_elim, ℕ, zero, suc, ◌+◌, ◌<◌, ◌≤◌, eqb, Bool, true, false, cond, List, [], ◌∷◌, ◌++◌, length, Option, sym, refl, ap, ◌∙◌, subst, arith, length-append}
use Rattle.std.proofs.lemmas.Bool.{cases_lt, ne_eqb}
use Rattle.counting.specs.Count.{one_if, times}
use Rattle.counting.proofs.Count.{times-snoc, times-append, length-times, one_if-same}
use Rattle.coord_core.specs.declared.event.Event.{Event}
use Rattle.coord_core.specs.declared.event.Event.TheVariants.{GenFailed, Made, MakeFailed, Wanted}
use Rattle.coord_core.specs.declared.terms.Terms.{Terms}
use Rattle.coord_core.specs.State.{State, is_gen}
use Rattle.coord_core.specs.Run.{step, opened}
use Rattle.coord_core.specs.Journal.{made, made_by, up_to}
use Rattle.coord_core.specs.Laws.{ended_by}
use Rattle.coord_run.specs.declared.driven.Made.{Made as Outcome}
use Rattle.coord_run.specs.declared.driven.Made.TheVariants as outcome
use Rattle.coord_run.specs.Meaning.{Meaning}
use Rattle.coord_run.specs.Journal.{ended_from, jobs_ended}
use Rattle.coord_run.specs.Outcomes.{is_outcome_of, outcomes_of, outcome_at, Tells, TellsOne, AreOutcomes}
use Rattle.coord_run.specs.Whole.{IsMade}

length-up_to : (n : ℕ) → length (up_to n) ≡ n
length-up_to zero = refl
length-up_to (suc n) = let h = length-up_to n in omega (arith, length-append (up_to n) (n ∷ []))

up_to-above : (x n : ℕ) → n ≤ x → times x (up_to n) ≡ 0
up_to-above x zero h = refl
up_to-above x (suc n) h =
    let i = up_to-above x n (omega arith) in
    let e : one_if (eqb x n) ≡ 0 = ap one_if (ne_eqb x n (λ q. omega arith)) in
    omega (arith, times-snoc x n (up_to n))

below-low : (x n : ℕ) → times x (up_to n) ≡ 1 → x < n → times x (up_to (suc n)) ≡ 1
below-low x n i l =
    let e : one_if (eqb x n) ≡ 0 = ap one_if (ne_eqb x n (λ q. omega arith)) in
    omega (arith, times-snoc x n (up_to n))

below-same : (x n : ℕ) → x < suc n → n ≤ x → times x (up_to (suc n)) ≡ 1
below-same x n h l =
    let q : x ≡ n = omega arith in
    let i = up_to-above x n l in
    let e : one_if (eqb x n) ≡ 1 = ap (λ (k : ℕ). one_if (eqb x k)) (sym q) ∙ one_if-same x in
    omega (arith, times-snoc x n (up_to n))

up_to-below : (x n : ℕ) → x < n → times x (up_to n) ≡ 1
up_to-below x zero h = absurd (omega arith)
up_to-below x (suc n) h = ⊎_elim (λ l. below-low x n (up_to-below x n l) l) (λ l. below-same x n h l) (cases_lt x n)

-- the units whose job or generation ended in a way that could be a job's
abbrev ends_by : Event → List ℕ
ends_by (Made i) = i ∷ []
ends_by (MakeFailed i) = i ∷ []
ends_by (Wanted i) = i ∷ []
ends_by _ = []

abbrev ends : List Event → List ℕ
ends [] = []
ends (e ∷ es) = ends_by e ++ ends es

ended-one : (e : Event) (g : Option ℕ) → length (ended_by e g) ≤ length (ends_by e)
ended-one (Made i) g = omega arith
ended-one (MakeFailed i) g = omega arith
ended-one (Wanted i) g = by (is_gen i g)
  where
    by : (b : Bool) → length (cond b [] (i ∷ [])) ≤ 1
    by true = omega arith
    by false = omega arith
ended-one _ g = omega arith

ended-le : (s : State) (es : List Event) → ended_from s es ≤ length (ends es)
ended-le s [] = omega arith
ended-le s (e ∷ es) = let one = ended-one e s.gen in let more = ended-le (step s e) es in omega (arith, length-append (ends_by e) (ends es))

made-one : (e : Event) (g : Option ℕ) → length (made_by e) ≤ length (ended_by e g)
made-one (Made i) g = omega arith
made-one _ g = omega arith

made-le : (s : State) (es : List Event) → length (made es) ≤ ended_from s es
made-le s [] = omega arith
made-le s (e ∷ es) = let one = made-one e s.gen in let more = made-le (step s e) es in omega (arith, length-append (made_by e) (made es))

both : (b : Bool) (e : Event) (os : List Event) (t : ℕ) → t ≤ length os → one_if b + t ≤ length (cond b (e ∷ os) os)
both true e os t h = omega arith
both false e os t h = omega arith

only : (b : Bool) (e : Event) (os : List Event) (t : ℕ) → t ≤ length os → t ≤ length (cond b (e ∷ os) os)
only true e os t h = omega arith
only false e os t h = omega arith

times-ends : (x : ℕ) (es : List Event) → times x (ends es) ≤ length (outcomes_of x es)
times-ends x [] = omega arith
times-ends x (Made i ∷ es) = both (eqb x i) (Made i) (outcomes_of x es) (times x (ends es)) (times-ends x es)
times-ends x (MakeFailed i ∷ es) = both (eqb x i) (MakeFailed i) (outcomes_of x es) (times x (ends es)) (times-ends x es)
times-ends x (Wanted i ∷ es) = both (eqb x i) (Wanted i) (outcomes_of x es) (times x (ends es)) (times-ends x es)
times-ends x (GenFailed i ∷ es) = only (eqb x i) (GenFailed i) (outcomes_of x es) (times x (ends es)) (times-ends x es)
times-ends x (_ ∷ es) = times-ends x es

there-by : (x i : ℕ) (e : Event) (es : List Event) (b : Bool) → is_outcome_of x e ≡ b → (outcomes_of x es ≡ Made i ∷ [] → 1 ≤ times x (made es)) → cond b (e ∷ outcomes_of x es) (outcomes_of x es) ≡ Made i ∷ [] → 1 ≤ times x (made_by e ++ made es)
there-by x i e es true is ih h =
    let same : e ≡ Made i = cc in
    let t : eqb x i ≡ true = sym (ap (is_outcome_of x) same) ∙ is in
    let o : one_if (eqb x i) ≡ 1 = ap one_if t in
    let n : 1 ≤ one_if (eqb x i) + times x (made es) = omega arith in
    subst (λ (z : Event). 1 ≤ times x (made_by z ++ made es)) (sym same) n
there-by x i e es false is ih h = let k = ih h in omega (arith, times-append x (made_by e) (made es))

made-there : (x i : ℕ) (es : List Event) → outcomes_of x es ≡ Made i ∷ [] → 1 ≤ times x (made es)
made-there x i [] h = absurd (cc)
made-there x i (e ∷ es) h = there-by x i e es (is_outcome_of x e) refl (made-there x i es) h

past : {F : Type 0} (os : List (Outcome F)) (x : ℕ) → length os ≤ x → outcome_at os x ≡ outcome.Skipped
past [] x h = refl
past (o ∷ os) zero h = absurd (omega arith)
past (o ∷ os) (suc x) h = past os x (omega arith)

module _ {P F : Type 0} (m : Meaning P F) where
  skip-one : (x : ℕ) (e : Event) → Tells m x e outcome.Skipped → ⊥
  skip-one x (Made i) h = h
  skip-one x _ h = h

  skip-none : (x : ℕ) (es : List Event) → TellsOne m x es outcome.Skipped → length es ≡ 0
  skip-none x [] h = refl
  skip-none x (e ∷ []) h = absurd (skip-one x e h)
  skip-none x (e ∷ f ∷ es) h = absurd h

  one-at-most : (x : ℕ) (es : List Event) (o : Outcome F) → TellsOne m x es o → length es ≤ 1
  one-at-most x [] o h = omega arith
  one-at-most x (e ∷ []) o h = omega arith
  one-at-most x (e ∷ f ∷ es) o h = absurd h

  told-event : (x : ℕ) (e : Event) (bytes : List ℕ) → Tells m x e (outcome.Made bytes) → (i : ℕ) × (e ≡ Made i)
  told-event x (Made i) bytes h = (i, refl)
  told-event x _ bytes h = absurd h

  told-one : (x : ℕ) (es : List Event) (bytes : List ℕ) → TellsOne m x es (outcome.Made bytes) → (i : ℕ) × (es ≡ Made i ∷ [])
  told-one x [] bytes h = absurd (cc)
  told-one x (e ∷ []) bytes h = let t = told-event x e bytes h in (t.0, ap (λ (z : Event). z ∷ []) t.1)
  told-one x (e ∷ f ∷ es) bytes h = absurd h

  -- where every unit was made, as many jobs ended as there are units
  pub all-made-ended : (keep : Bool) (terms : Terms) (es : List Event) (os : List (Outcome F)) → AreOutcomes m keep es os → ((x : ℕ) → x < m.count → IsMade (outcome_at os x)) → jobs_ended terms es ≡ m.count
  all-made-ended keep terms es os a all =
      let most = length-times (ends es) (up_to m.count) upper in
      let least = length-times (up_to m.count) (made es) lower in
      let up = ended-le (opened terms) es in
      let down = made-le (opened terms) es in
      omega (arith, length-up_to m.count)
    where
      upper : (x : ℕ) → times x (ends es) ≤ times x (up_to m.count)
      upper x = ⊎_elim below above (cases_lt x m.count)
        where
          below : x < m.count → times x (ends es) ≤ times x (up_to m.count)
          below h = omega (arith, times-ends x es, one-at-most x (outcomes_of x es) (outcome_at os x) (a.tells x), up_to-below x m.count h)

          above : m.count ≤ x → times x (ends es) ≤ times x (up_to m.count)
          above h =
              let w : length os ≤ x = omega (arith, a.width) in
              let none = skip-none x (outcomes_of x es) (subst (λ (o : Outcome F). TellsOne m x (outcomes_of x es) o) (past os x w) (a.tells x)) in
              omega (arith, times-ends x es, none)

      lower : (x : ℕ) → times x (up_to m.count) ≤ times x (made es)
      lower x = ⊎_elim below above (cases_lt x m.count)
        where
          below : x < m.count → times x (up_to m.count) ≤ times x (made es)
          below h =
              let b = all x h in
              let t = told-one x (outcomes_of x es) b.0 (subst (λ (o : Outcome F). TellsOne m x (outcomes_of x es) o) b.1 (a.tells x)) in
              omega (arith, up_to-below x m.count h, made-there x t.0 es t.1)

          above : m.count ≤ x → times x (up_to m.count) ≤ times x (made es)
          above h = omega (arith, up_to-above x m.count h)
