-- Outcomes without their events.
use Rattle.std.proofs.Common.{◌≡◌, ◌⊎◌, ⊎_elim, inl, inr, ℕ, ◌+◌, ◌<◌, ◌≤◌, eqb, Bool, true, false, cond, List, [], ◌∷◌, Option, Some, None, MatchOption, Err, sym, refl, ap, ◌∙◌, subst, arith}
use Rattle.counting.specs.Count.{one_if, times}
use Rattle.coord_core.specs.declared.event.Event.{Event}
use Rattle.coord_core.specs.declared.event.Event.TheVariants.{Took, Empty, TakeFault, Generated, GenFailed, Made, MakeFailed, Wanted, Gave, GiveFault}
use Rattle.coord_core.specs.Journal.{lowered, least}
use Rattle.coord_core.specs.Laws.{IsLeast}
use Rattle.coord_core.proofs.Bar.{least-is}
use Rattle.coord_run.specs.declared.driven.Made.{Made as Outcome}
use Rattle.coord_run.specs.declared.driven.Made.TheVariants as outcome
use Rattle.coord_run.specs.Meaning.{Meaning}
use Rattle.coord_run.specs.Outcomes.{outcomes_of, outcome_at, IsAfter, Tells, TellsOne, AreOutcomes}
use Rattle.coord_run.specs.Whole.{Stops, IsFirstTold, IsDefined, HasOneFault, IsMadeAs}

fail-step : (k : Bool) (x i : ℕ) (e : Event) (os : List Event) (t : ℕ) (b : Bool) → eqb x i ≡ b → times x (lowered k (e ∷ os)) ≡ one_if (eqb x i) + times x (lowered k os) → t ≡ times x (lowered k os) → one_if b + t ≡ times x (lowered k (cond b (e ∷ os) os))
fail-step k x i e os t true is l h = let o : one_if (eqb x i) ≡ 1 = ap one_if is in omega arith
fail-step k x i e os t false is l h = omega arith

other-step : (k : Bool) (x : ℕ) (e : Event) (os : List Event) (t : ℕ) (b : Bool) → times x (lowered k (e ∷ os)) ≡ times x (lowered k os) → t ≡ times x (lowered k os) → t ≡ times x (lowered k (cond b (e ∷ os) os))
other-step k x e os t true l h = h ∙ sym l
other-step k x e os t false l h = h

-- what lowered the bar of a unit is among its outcomes
lowered-of : (k : Bool) (x : ℕ) (es : List Event) → times x (lowered k es) ≡ times x (lowered k (outcomes_of x es))
lowered-of k x [] = refl
lowered-of false x (GenFailed i ∷ es) = fail-step false x i (GenFailed i) (outcomes_of x es) (times x (lowered false es)) (eqb x i) refl refl (lowered-of false x es)
lowered-of false x (MakeFailed i ∷ es) = fail-step false x i (MakeFailed i) (outcomes_of x es) (times x (lowered false es)) (eqb x i) refl refl (lowered-of false x es)
lowered-of false x (Wanted i ∷ es) = fail-step false x i (Wanted i) (outcomes_of x es) (times x (lowered false es)) (eqb x i) refl refl (lowered-of false x es)
lowered-of false x (Made i ∷ es) = other-step false x (Made i) (outcomes_of x es) (times x (lowered false es)) (eqb x i) refl (lowered-of false x es)
lowered-of true x (GenFailed i ∷ es) = other-step true x (GenFailed i) (outcomes_of x es) (times x (lowered true es)) (eqb x i) refl (lowered-of true x es)
lowered-of true x (MakeFailed i ∷ es) = other-step true x (MakeFailed i) (outcomes_of x es) (times x (lowered true es)) (eqb x i) refl (lowered-of true x es)
lowered-of true x (Wanted i ∷ es) = fail-step true x i (Wanted i) (outcomes_of x es) (times x (lowered true es)) (eqb x i) refl refl (lowered-of true x es)
lowered-of true x (Made i ∷ es) = other-step true x (Made i) (outcomes_of x es) (times x (lowered true es)) (eqb x i) refl (lowered-of true x es)
lowered-of false x (Took b ∷ es) = lowered-of false x es
lowered-of false x (Empty ∷ es) = lowered-of false x es
lowered-of false x (TakeFault ∷ es) = lowered-of false x es
lowered-of false x (Generated i c ∷ es) = lowered-of false x es
lowered-of false x (Gave b ∷ es) = lowered-of false x es
lowered-of false x (GiveFault b ∷ es) = lowered-of false x es
lowered-of true x (Took b ∷ es) = lowered-of true x es
lowered-of true x (Empty ∷ es) = lowered-of true x es
lowered-of true x (TakeFault ∷ es) = lowered-of true x es
lowered-of true x (Generated i c ∷ es) = lowered-of true x es
lowered-of true x (Gave b ∷ es) = lowered-of true x es
lowered-of true x (GiveFault b ∷ es) = lowered-of true x es

module _ {P F : Type 0} (m : Meaning P F) where
  stops-failed : (x : ℕ) (e : Event) (o : Outcome F) → Tells m x e o → 1 ≤ times x (lowered false (e ∷ [])) → Stops false o
  stops-failed x (GenFailed i) (outcome.Refused f) h k = tt
  stops-failed x (MakeFailed i) (outcome.Refused f) h k = tt
  stops-failed x (Wanted i) outcome.Wanted h k = tt
  stops-failed x (Made i) (outcome.Made bytes) h k = absurd (omega arith)
  stops-failed x _ _ h k = absurd h

  stops-wanted : (x : ℕ) (e : Event) (o : Outcome F) → Tells m x e o → 1 ≤ times x (lowered true (e ∷ [])) → Stops true o
  stops-wanted x (GenFailed i) (outcome.Refused f) h k = absurd (omega arith)
  stops-wanted x (MakeFailed i) (outcome.Refused f) h k = absurd (omega arith)
  stops-wanted x (Wanted i) outcome.Wanted h k = tt
  stops-wanted x (Made i) (outcome.Made bytes) h k = absurd (omega arith)
  stops-wanted x _ _ h k = absurd h

  stops-one : (k : Bool) (x : ℕ) (e : Event) (o : Outcome F) → Tells m x e o → 1 ≤ times x (lowered k (e ∷ [])) → Stops k o
  stops-one true x e o h l = stops-wanted x e o h l
  stops-one false x e o h l = stops-failed x e o h l

  stops : (k : Bool) (x : ℕ) (es : List Event) (o : Outcome F) → TellsOne m x es o → 1 ≤ times x (lowered k es) → Stops k o
  stops k x [] o h l = absurd (omega arith)
  stops k x (e ∷ []) o h l = stops-one k x e o h l
  stops k x (e ∷ f ∷ es) o h l = absurd h

  -- before a unit that was skipped there is one that stopped the session
  after-stop : (k : Bool) (es : List Event) (os : List (Outcome F)) → ((x : ℕ) → TellsOne m x (outcomes_of x es) (outcome_at os x)) → (x : ℕ) (bar : Option ℕ) → MatchOption bar (lowered k es ≡ []) (IsLeast (lowered k es)) → IsAfter bar x → (b : ℕ) × (b < x) × Stops k (outcome_at os b)
  after-stop k es os tells x None l h = absurd h
  after-stop k es os tells x (Some b) l h = (b, h, stops k b (outcomes_of b es) (outcome_at os b) (tells b) (subst (λ (n : ℕ). 1 ≤ n) (lowered-of k b es) l.among))

  pub first-told : (k : Bool) (es : List Event) (os : List (Outcome F)) → AreOutcomes m k es os → IsFirstTold k m.count os
  first-told k es os a x low is = after-stop k es os a.tells x (least (lowered k es)) (least-is (lowered k es)) (a.skipped x low is)

  defined-one : (x : ℕ) (e : Event) (o : Outcome F) → Tells m x e o → IsDefined m x o
  defined-one x (Made i) (outcome.Made bytes) h = h
  defined-one x (GenFailed i) (outcome.Refused f) h = inl h
  defined-one x (MakeFailed i) (outcome.Refused f) h = inr h
  defined-one x e outcome.Wanted h = tt
  defined-one x e outcome.Skipped h = tt
  defined-one x _ _ h = absurd h

  pub defined : (x : ℕ) (es : List Event) (o : Outcome F) → TellsOne m x es o → IsDefined m x o
  defined x [] o h = subst (λ (z : Outcome F). IsDefined m x z) (sym h) tt
  defined x (e ∷ []) o h = defined-one x e o h
  defined x (e ∷ f ∷ es) o h = absurd h

  pub made-as : HasOneFault m → (x : ℕ) (o : Outcome F) → IsDefined m x o → IsMadeAs m x o
  made-as one x (outcome.Made bytes) h = h
  made-as one x (outcome.Refused f) h = ⊎_elim (λ (g : m.generated x ≡ Err f). one x f g) (λ (g : m.made x ≡ Err f). g) h
  made-as one x outcome.Wanted h = tt
  made-as one x outcome.Skipped h = tt
