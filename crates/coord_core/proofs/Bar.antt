-- The bar is the least unit whose failure lowers it, and below the number of units it ends all generation.
use Rattle.std.proofs.Common.{◌≡◌, ◌⊎◌, inl, inr, ℕ, ◌+◌, ◌<◌, ◌≤◌, eqb, ltb, min, Bool, true, false, ◌||◌, cond, List, [], ◌∷◌, ◌++◌, Option, Some, None, unwrap_or, MatchOption, sym, refl, ap, ◌∙◌, subst, arith, append_assoc}
use Rattle.std.proofs.lemmas.Bool.{eqb-true}
use Rattle.std.proofs.lemmas.Bool.Decides.{nat_tests}
use Rattle.counting.specs.Count.{one_if, times}
use Rattle.counting.proofs.Count.{times-append, one_if-same}
use Rattle.coord_core.specs.declared.event.Event.{Event}
use Rattle.coord_core.specs.declared.event.Event.TheVariants.{Took, Empty, TakeFault, Generated, GenFailed, Made, MakeFailed, Wanted, Gave, GiveFault}
use Rattle.coord_core.specs.declared.event.Main.{Main}
use Rattle.coord_core.specs.declared.event.Main.TheVariants.{Idle, Generate, Lend}
use Rattle.coord_core.specs.declared.terms.Terms.{Terms}
use Rattle.coord_core.specs.State.{State, times_some, in_hand, is_gen, runs}
use Rattle.coord_core.specs.Effect.{gen_ended, ended, cut, wanted, effect}
use Rattle.coord_core.specs.Decide.{may_ask, decided, actions_of}
use Rattle.coord_core.specs.Run.{first, opened, step, run_from, run, answers_from, is_awaited, LawfulFrom, Lawful}
use Rattle.coord_core.specs.Journal.{begun_by, begun, failed_by, failed, wanted_by, wanted as all_wanted, lowered_by, lowered, lesser, lesser_by, least}
use Rattle.coord_core.specs.Laws.{Barred, IsLeast}
use Rattle.coord_core.proofs.Jobs.{gen_is, running_at-runs}
use Rattle.coord_core.proofs.Acted.{acted, units_are}
use Rattle.coord_core.proofs.Hand.{Held, effect-next, step-terms, opened-terms, run-terms, effect-held, decided-held, opened-held, run-held}

-- what an event does to the bar of a run that keeps going or does not: nothing, or it tells the failure of a unit that was in hand
abbrev pub Lowers : Bool → Event → State → State → Type 0
Lowers k e s t = ((lowered_by k e ≡ []) × (t.bar ≡ s.bar)) ⊎ ((i : ℕ) × (lowered_by k e ≡ i ∷ []) × (t.bar ≡ min s.bar i) × (1 ≤ in_hand i s))

-- which unit an event tells the failure of: none, or one that was in hand
abbrev Fails : Event → State → Type 0
Fails e s = (failed_by e ≡ []) ⊎ ((i : ℕ) × (failed_by e ≡ i ∷ []) × (1 ≤ in_hand i s))

gen_hand : (i : ℕ) (s : State) → is_gen i s.gen ≡ true → 1 ≤ in_hand i s
gen_hand i s h = let e : times_some i s.gen ≡ one_if (eqb i i) = ap (times_some i) (gen_is i s.gen h) in let o = one_if-same i in omega arith

run_hand : (i : ℕ) (s : State) → runs i s.running ≡ true → 1 ≤ in_hand i s
run_hand i s h = let r = running_at-runs i s.running h in omega arith

lowers-none : (k : Bool) (e : Event) → failed_by e ≡ [] → wanted_by e ≡ [] → lowered_by k e ≡ []
lowers-none true e f w = w
lowers-none false e f w = f

lowers-wanted : (k : Bool) (i : ℕ) → lowered_by k (Wanted i) ≡ i ∷ []
lowers-wanted true i = refl
lowers-wanted false i = refl

pub effect-lowers : (e : Event) (s : State) → is_awaited s e ≡ true → Lowers s.terms.keep e s (effect e s)
effect-lowers (Took b) s out = inl (lowers-none s.terms.keep (Took b) refl refl, refl)
effect-lowers Empty s out = inl (lowers-none s.terms.keep Empty refl refl, refl)
effect-lowers TakeFault s out = inl (lowers-none s.terms.keep TakeFault refl refl, refl)
effect-lowers (Generated i c) s out = inl (lowers-none s.terms.keep (Generated i c) refl refl, refl)
effect-lowers (GenFailed i) s out = by s.terms.keep
  where
    by : (k : Bool) → Lowers k (GenFailed i) s (cut k i (gen_ended s))
    by true = inl (refl, refl)
    by false = inr (i, refl, refl, gen_hand i s out)
effect-lowers (Made i) s out = inl (lowers-none s.terms.keep (Made i) refl refl, refl)
effect-lowers (MakeFailed i) s out = by s.terms.keep
  where
    by : (k : Bool) → Lowers k (MakeFailed i) s (cut k i (ended i s))
    by true = inl (refl, refl)
    by false = inr (i, refl, refl, run_hand i s out)
effect-lowers (Wanted i) s out = by (is_gen i s.gen) refl out
  where
    by : (t : Bool) → is_gen i s.gen ≡ t → (t || runs i s.running) ≡ true → Lowers s.terms.keep (Wanted i) s (wanted t i s)
    by true is o = inr (i, lowers-wanted s.terms.keep i, refl, gen_hand i s is)
    by false is o = inr (i, lowers-wanted s.terms.keep i, refl, run_hand i s o)
effect-lowers (Gave b) s out = inl (lowers-none s.terms.keep (Gave b) refl refl, refl)
effect-lowers (GiveFault b) s out = inl (lowers-none s.terms.keep (GiveFault b) refl refl, refl)

effect-fails : (e : Event) (s : State) → is_awaited s e ≡ true → Fails e s
effect-fails (Took b) s out = inl refl
effect-fails Empty s out = inl refl
effect-fails TakeFault s out = inl refl
effect-fails (Generated i c) s out = inl refl
effect-fails (GenFailed i) s out = inr (i, refl, gen_hand i s out)
effect-fails (Made i) s out = inl refl
effect-fails (MakeFailed i) s out = inr (i, refl, run_hand i s out)
effect-fails (Wanted i) s out = by (is_gen i s.gen) refl out
  where
    by : (t : Bool) → is_gen i s.gen ≡ t → (t || runs i s.running) ≡ true → Fails (Wanted i) s
    by true is o = inr (i, refl, gen_hand i s is)
    by false is o = inr (i, refl, run_hand i s o)
effect-fails (Gave b) s out = inl refl
effect-fails (GiveFault b) s out = inl refl

append-nil : (l : List ℕ) → l ++ [] ≡ l
append-nil [] = refl
append-nil (x ∷ xs) = ap (λ t. x ∷ t) (append-nil xs)

lesser-lesser : (b i : ℕ) (o : Option ℕ) → lesser (min b i) o ≡ lesser b (Some (lesser i o))
lesser-lesser b i None = refl
lesser-lesser b i (Some y) = omega arith

step-bar : (s : State) (e : Event) → (step s e).bar ≡ (effect e s).bar
step-bar s e = (acted (may_ask e) (effect e s)).bar

-- a run keeps going, or does not, from its start to its end
pub step-keep : (k : Bool) (s : State) (e : Event) → s.terms.keep ≡ k → (step s e).terms.keep ≡ k
step-keep k s e is = ap (λ (t : Terms). t.keep) (step-terms s e) ∙ is

pub lowers-as : (k : Bool) (e : Event) (s : State) → s.terms.keep ≡ k → is_awaited s e ≡ true → Lowers k e s (effect e s)
lowers-as k e s is out = subst (λ (b : Bool). Lowers b e s (effect e s)) is (effect-lowers e s out)

run_from-bar : (k : Bool) (s : State) (es : List Event) → s.terms.keep ≡ k → LawfulFrom s es → (run_from s es).bar ≡ lesser s.bar (least (lowered k es))
run_from-bar k s [] is l = refl
run_from-bar k s (e ∷ es) is l = by (lowers-as k e s is l.0) (run_from-bar k (step s e) es (step-keep k s e is) l.1 ∙ ap (λ (b : ℕ). lesser b (least (lowered k es))) (step-bar s e))
  where
    by : Lowers k e s (effect e s) → (run_from (step s e) es).bar ≡ lesser (effect e s).bar (least (lowered k es)) → (run_from (step s e) es).bar ≡ lesser s.bar (least (lowered_by k e ++ lowered k es))
    by (inl h) rest = rest ∙ ap (λ (b : ℕ). lesser b (least (lowered k es))) h.1 ∙ ap (λ (l : List ℕ). lesser s.bar (least (l ++ lowered k es))) (sym h.0)
    by (inr h) rest = rest ∙ ap (λ (b : ℕ). lesser b (least (lowered k es))) h.2 ∙ lesser-lesser s.bar h.0 (least (lowered k es)) ∙ ap (λ (l : List ℕ). lesser s.bar (least (l ++ lowered k es))) (sym h.1)

-- each unit that failed is one of n
run_from-units : (n : ℕ) (s : State) (es : List Event) → LawfulFrom s es → Held n s → (x : ℕ) → 1 ≤ times x (failed es) → x < n
run_from-units n s [] l h x at = absurd (omega arith)
run_from-units n s (e ∷ es) l h x at = by (λ a. run_from-units n (step s e) es l.1 (decided-held n (may_ask e) (effect e s) (effect-held n e s l.0 h)) x a) (effect-fails e s l.0)
  where
    parts : times x (failed_by e ++ failed es) ≡ times x (failed_by e) + times x (failed es)
    parts = times-append x (failed_by e) (failed es)

    here : (i : ℕ) (t : Bool) → eqb x i ≡ t → 1 ≤ in_hand i s → (1 ≤ times x (failed es) → x < n) → 1 ≤ one_if t + times x (failed es) → x < n
    here i true is hand rest a = let z = h.low i hand in let k = h.next in let y = eqb-true x i is in omega arith
    here i false is hand rest a = rest (omega arith)

    by : (1 ≤ times x (failed es) → x < n) → Fails e s → x < n
    by rest (inl g) = let p = parts in rest (let z : times x (failed_by e) ≡ 0 = ap (times x) g in omega arith)
    by rest (inr g) = let p = parts in here g.0 (eqb x g.0) refl g.2 rest (let z : times x (failed_by e) ≡ one_if (eqb x g.0) + 0 = ap (times x) g.1 in omega arith)

-- what lowers the bar failed
lowered-fewer : (k : Bool) (x : ℕ) (es : List Event) → times x (lowered k es) ≤ times x (failed es)
lowered-fewer k x [] = omega arith
lowered-fewer k x (e ∷ es) =
    let r = lowered-fewer k x es in
    let a = times-append x (lowered_by k e) (lowered k es) in let b = times-append x (failed_by e) (failed es) in
    let c = one k e in omega arith
  where
    one : (k : Bool) (e : Event) → times x (lowered_by k e) ≤ times x (failed_by e)
    one false e = omega arith
    one true (Took b) = omega arith
    one true Empty = omega arith
    one true TakeFault = omega arith
    one true (Generated i c) = omega arith
    one true (GenFailed i) = omega arith
    one true (Made i) = omega arith
    one true (MakeFailed i) = omega arith
    one true (Wanted i) = omega arith
    one true (Gave b) = omega arith
    one true (GiveFault b) = omega arith

pub least-is : (xs : List ℕ) → MatchOption (least xs) (xs ≡ []) (IsLeast xs)
least-is [] = refl
least-is (x ∷ xs) = by (least xs) (least-is xs)
  where
    same : (y : ℕ) → 1 ≤ times x (x ∷ xs)
    same y = let o = one_if-same x in omega arith

    by : (o : Option ℕ) → MatchOption o (xs ≡ []) (IsLeast xs) → IsLeast (x ∷ xs) (lesser x o)
    by None h = record {
      among = same x;
      below = λ y at. let z : times y xs ≡ 0 = ap (times y) h in only y (eqb y x) refl (omega arith);
    }
      where
        only : (y : ℕ) (t : Bool) → eqb y x ≡ t → 1 ≤ one_if t → x ≤ y
        only y true is a = let e = eqb-true y x is in omega arith
        only y false is a = absurd (omega arith)
    by (Some m) h = record {
      among = either (ltb x m) refl;
      below = λ y at. other y (eqb y x) refl at;
    }
      where
        either : (t : Bool) → ltb x m ≡ t → 1 ≤ times (min x m) (x ∷ xs)
        either true is = let e : min x m ≡ x = grind (arith, nat_tests) in let f : times (min x m) (x ∷ xs) ≡ times x (x ∷ xs) = ap (λ (k : ℕ). times k (x ∷ xs)) e in let s = same x in omega arith
        either false is = let e : min x m ≡ m = grind (arith, nat_tests) in let f : times (min x m) (x ∷ xs) ≡ times m (x ∷ xs) = ap (λ (k : ℕ). times k (x ∷ xs)) e in let a = h.among in omega arith

        other : (y : ℕ) (t : Bool) → eqb y x ≡ t → 1 ≤ one_if t + times y xs → min x m ≤ y
        other y true is a = let e = eqb-true y x is in omega arith
        other y false is a = let b = h.below y (omega arith) in omega arith

-- the least of some numbers and one more
least-snoc : (xs : List ℕ) (i : ℕ) → least (xs ++ i ∷ []) ≡ Some (lesser i (least xs))
least-snoc [] i = refl
least-snoc (x ∷ xs) i = ap (λ (o : Option ℕ). Some (lesser x o)) (least-snoc xs i) ∙ by (least xs)
  where
    by : (o : Option ℕ) → Some (min x (lesser i o)) ≡ Some (min i (lesser x o))
    by None = ap Some (let z : min x i ≡ min i x = omega arith in z)
    by (Some y) = ap Some (let z : min x (min i y) ≡ min i (min x y) = omega arith in z)

failed-snoc : (es : List Event) (e : Event) → failed (es ++ e ∷ []) ≡ failed es ++ failed_by e
failed-snoc [] e = append-nil (failed_by e)
failed-snoc (x ∷ xs) e = ap (λ (l : List ℕ). failed_by x ++ l) (failed-snoc xs e) ∙ sym (append_assoc (failed_by x) (failed xs) (failed_by e))

-- the least failure after one event more
pub failure-after : (es : List Event) (e : Event) → least (failed (es ++ e ∷ [])) ≡ lesser_by (failed_by e) (least (failed es))
failure-after es e = ap least (failed-snoc es e) ∙ by e
  where
    by : (e : Event) → least (failed es ++ failed_by e) ≡ lesser_by (failed_by e) (least (failed es))
    by (Took b) = ap least (append-nil (failed es))
    by Empty = ap least (append-nil (failed es))
    by TakeFault = ap least (append-nil (failed es))
    by (Generated i c) = ap least (append-nil (failed es))
    by (GenFailed i) = least-snoc (failed es) i
    by (Made i) = ap least (append-nil (failed es))
    by (MakeFailed i) = least-snoc (failed es) i
    by (Wanted i) = least-snoc (failed es) i
    by (Gave b) = ap least (append-nil (failed es))
    by (GiveFault b) = ap least (append-nil (failed es))

opened-bar : (terms : Terms) → (opened terms).bar ≡ terms.units
opened-bar terms = (acted true (first terms)).bar

opened-keep : (terms : Terms) → (opened terms).terms.keep ≡ terms.keep
opened-keep terms = ap (λ (t : Terms). t.keep) (opened-terms terms)

pub barred : (terms : Terms) (es : List Event) → Lawful terms es → Barred terms (run terms es) es
barred terms es l = record { bar = run_from-bar terms.keep (opened terms) es (opened-keep terms) l ∙ ap (λ (k : ℕ). lesser k (least (lowered terms.keep es))) (opened-bar terms) ∙ by (least (lowered terms.keep es)) (least-is (lowered terms.keep es)); units = units }
  where
    units : (x : ℕ) → 1 ≤ times x (failed es) → x < terms.units
    units = run_from-units terms.units (opened terms) es l (opened-held terms)

    by : (o : Option ℕ) → MatchOption o (lowered terms.keep es ≡ []) (IsLeast (lowered terms.keep es)) → lesser terms.units o ≡ unwrap_or o terms.units
    by None h = refl
    by (Some m) h = let f = lowered-fewer terms.keep m es in let a = h.among in let z = units m (omega arith) in omega arith

-- the least unit whose failure lowers the bar is the bar, where that is below the number of units
pub bar_names : (terms : Terms) (es : List Event) → Lawful terms es → least (lowered terms.keep es) ≡ cond (ltb (run terms es).bar terms.units) (Some (run terms es).bar) None
bar_names terms es l = by (least (lowered terms.keep es)) (least-is (lowered terms.keep es)) (b.bar)
  where
    b : Barred terms (run terms es) es
    b = barred terms es l

    by : (o : Option ℕ) → MatchOption o (lowered terms.keep es ≡ []) (IsLeast (lowered terms.keep es)) → (run terms es).bar ≡ unwrap_or o terms.units → o ≡ cond (ltb (run terms es).bar terms.units) (Some (run terms es).bar) None
    by None h e = none (ltb (run terms es).bar terms.units) (grind (arith, nat_tests))
      where
        none : (t : Bool) → t ≡ false → None ≡ cond t (Some (run terms es).bar) None
        none true f = absurd (cc)
        none false f = refl
    by (Some m) h e = let f = lowered-fewer terms.keep m es in let a = h.among in let z = b.units m (omega arith) in some (ltb (run terms es).bar terms.units) (grind (arith, nat_tests))
      where
        some : (t : Bool) → t ≡ true → Some m ≡ cond t (Some (run terms es).bar) None
        some true f = ap Some (sym e)
        some false f = absurd (cc)

-- of a run that does not keep going it is the first failure, and of one that does it found no memory
pub bar_fails : (terms : Terms) (es : List Event) → Lawful terms es → terms.keep ≡ false → least (failed es) ≡ cond (ltb (run terms es).bar terms.units) (Some (run terms es).bar) None
bar_fails terms es l is = subst (λ (k : Bool). least (lowered k es) ≡ cond (ltb (run terms es).bar terms.units) (Some (run terms es).bar) None) is (bar_names terms es l)

pub bar_wanted : (terms : Terms) (es : List Event) → Lawful terms es → terms.keep ≡ true → (run terms es).bar < terms.units → 1 ≤ times (run terms es).bar (all_wanted es)
bar_wanted terms es l is low = subst (λ (k : Bool). 1 ≤ times (run terms es).bar (lowered k es)) is (among (least (lowered terms.keep es)) (least-is (lowered terms.keep es)) (barred terms es l).bar)
  where
    among : (o : Option ℕ) → MatchOption o (lowered terms.keep es ≡ []) (IsLeast (lowered terms.keep es)) → (run terms es).bar ≡ unwrap_or o terms.units → 1 ≤ times (run terms es).bar (lowered terms.keep es)
    among None h e = let y = low in absurd (omega arith)
    among (Some m) h e = subst (λ (k : ℕ). 1 ≤ times k (lowered terms.keep es)) (sym e) h.among

nothing_begun : (may : Bool) (s : State) → s.bar < s.terms.units → begun_by (actions_of may s).main ≡ []
nothing_begun may s low = by (actions_of may s).main (λ i e. let b = (acted may s).begun i e in let c = b.3 in absurd (omega arith))
  where
    by : (m : Main) → ((i : ℕ) → m ≡ Generate i → ⊥) → begun_by m ≡ []
    by Idle h = refl
    by (Lend i) h = refl
    by (Generate i) h = absurd (h i refl)

effect-low : (e : Event) (s : State) → is_awaited s e ≡ true → s.bar < s.terms.units → (effect e s).bar < (effect e s).terms.units
effect-low e s out low = by (effect-lowers e s out)
  where
    by : Lowers s.terms.keep e s (effect e s) → (effect e s).bar < (effect e s).terms.units
    by (inl h) = let b = h.1 in let u = units_are ((effect-next e s).1) in omega arith
    by (inr h) = let b = h.2 in let u = units_are ((effect-next e s).1) in omega arith

decided-low : (may : Bool) (s : State) → s.bar < s.terms.units → (decided may s).bar < (decided may s).terms.units
decided-low may s low = let a = acted may s in let b = a.bar in let u = units_are a.terms in omega arith

low_from : (s : State) (es : List Event) → LawfulFrom s es → s.bar < s.terms.units → begun (answers_from s es) ≡ []
low_from s [] l low = refl
low_from s (e ∷ es) l low =
    let mid = effect-low e s l.0 low in
    ap (λ (xs : List ℕ). xs ++ begun (answers_from (step s e) es)) (nothing_begun (may_ask e) (effect e s) mid) ∙ low_from (step s e) es l.1 (decided-low (may_ask e) (effect e s) mid)

-- from the event on that lowers the bar nothing is begun
failed_from : (k : Bool) (n : ℕ) (s : State) (e : Event) (es : List Event) (i : ℕ) → s.terms.keep ≡ k → Held n s → LawfulFrom s (e ∷ es) → lowered_by k e ≡ i ∷ [] → begun (answers_from s (e ∷ es)) ≡ []
failed_from k n s e es i keep h l is =
    ap (λ (xs : List ℕ). xs ++ begun (answers_from (step s e) es)) (nothing_begun (may_ask e) (effect e s) mid) ∙ low_from (step s e) es l.1 (decided-low (may_ask e) (effect e s) mid)
  where
    by : Lowers k e s (effect e s) → (effect e s).bar < (effect e s).terms.units
    by (inl g) = absurd (let z = sym g.0 ∙ is in cc)
    by (inr g) = let b = g.2 in let z = h.low g.0 g.3 in let j = h.next in let u = units_are ((effect-next e s).1) in let w = h.units in omega arith

    mid : (effect e s).bar < (effect e s).terms.units
    mid = by (lowers-as k e s keep l.0)

split_at : (s : State) (before after : List Event) → LawfulFrom s (before ++ after) → LawfulFrom s before × LawfulFrom (run_from s before) after
split_at s [] after l = (tt, l)
split_at s (e ∷ es) after l = let r = split_at (step s e) es after l.1 in ((l.0, r.0), r.1)

pub closed : (terms : Terms) (before after : List Event) (e : Event) (i : ℕ) → Lawful terms (before ++ e ∷ after) → lowered_by terms.keep e ≡ i ∷ [] → begun (answers_from (run terms before) (e ∷ after)) ≡ []
closed terms before after e i l is = let s = split_at (opened terms) before (e ∷ after) l in failed_from terms.keep terms.units (run terms before) e after i (ap (λ (t : Terms). t.keep) (run-terms terms before)) (run-held terms before s.0) s.1 is
