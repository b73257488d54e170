-- The order in which units are generated and started.
use Rattle.std.proofs.Common.{◌≡◌, ℕ, suc, ◌+◌, ◌<◌, ◌≤◌, Bool, true, List, [], ◌∷◌, ◌++◌, length, sym, refl, ap, ◌∙◌, arith, append_assoc}
use Rattle.counting.specs.Count.{times}
use Rattle.counting.proofs.Count.{times-append}
use Rattle.coord_core.specs.declared.event.Event.{Event}
use Rattle.coord_core.specs.declared.event.Main.{Main}
use Rattle.coord_core.specs.declared.event.Main.TheVariants.{Idle, Generate, Lend}
use Rattle.coord_core.specs.declared.terms.Terms.{Terms}
use Rattle.coord_core.specs.State.{State}
use Rattle.coord_core.specs.Effect.{effect}
use Rattle.coord_core.specs.Decide.{may_ask, decided, actions_of}
use Rattle.coord_core.specs.Run.{first, opened, step, run_from, run, answers_from, answers, is_awaited, LawfulFrom, Lawful}
use Rattle.coord_core.specs.Journal.{begun_by, jobs_by, begun, jobs, up_to}
use Rattle.coord_core.specs.Laws.{InOrder}
use Rattle.coord_core.proofs.Acted.{acted}
use Rattle.coord_core.proofs.Hand.{decided-hand, begun-next, effect-next, waits, once_more, low_more, effect-fewer, run-held}

append-nil : (l : List ℕ) → l ++ [] ≡ l
append-nil [] = refl
append-nil (x ∷ xs) = ap (λ t. x ∷ t) (append-nil xs)

up_to_same : (a b : ℕ) → a ≡ b → up_to a ≡ up_to b
up_to_same a b e = ap up_to e

-- what is begun comes after all that was generated
up_to-begun : (m : Main) (next : ℕ) → ((i : ℕ) → m ≡ Generate i → i ≡ next) → up_to next ++ begun_by m ≡ up_to (next + length (begun_by m))
up_to-begun Idle next h = append-nil (up_to next) ∙ up_to_same next (next + 0) (omega arith)
up_to-begun (Lend i) next h = append-nil (up_to next) ∙ up_to_same next (next + 0) (omega arith)
up_to-begun (Generate i) next h = ap (λ (k : ℕ). up_to next ++ k ∷ []) (h i refl) ∙ up_to_same (suc next) (next + 1) (omega arith)

decided-begun : (may : Bool) (s : State) → up_to s.next ++ begun_by (actions_of may s).main ≡ up_to (decided may s).next
decided-begun may s = let a = acted may s in up_to-begun (actions_of may s).main s.next (λ i e. (a.begun i e).0) ∙ ap up_to (sym a.next)

run_from-begun : (s : State) (es : List Event) → up_to s.next ++ begun (answers_from s es) ≡ up_to (run_from s es).next
run_from-begun s [] = append-nil (up_to s.next)
run_from-begun s (e ∷ es) =
    let b = begun_by (actions_of (may_ask e) (effect e s)).main in
    let n : s.next ≡ (effect e s).next = sym ((effect-next e s).0) in
    sym (append_assoc (up_to s.next) b (begun (answers_from (step s e) es)))
    ∙ ap (λ (k : ℕ). (up_to k ++ b) ++ begun (answers_from (step s e) es)) n
    ∙ ap (λ (l : List ℕ). l ++ begun (answers_from (step s e) es)) (decided-begun (may_ask e) (effect e s))
    ∙ run_from-begun (step s e) es

begun-run : (terms : Terms) (es : List Event) → begun (answers terms es) ≡ up_to (run terms es).next
begun-run terms es =
    ap (λ (l : List ℕ). l ++ begun (answers_from (opened terms) es)) (decided-begun true (first terms)) ∙ run_from-begun (opened terms) es

-- so often x was started, is queued or is being generated
record Started (s : State) (before : ℕ → ℕ) : Type 0 where
  once : (x : ℕ) → before x + waits x s ≤ 1
  low : (x : ℕ) → 1 ≤ before x + waits x s → x < s.next

decided-started : (may : Bool) (s : State) (before : ℕ → ℕ) → Started s before → Started (decided may s) (λ x. before x + times x (jobs_by (actions_of may s)))
decided-started may s before h =
    let a = acted may s in
    let m = (actions_of may s).main in
    record {
      once = λ x. let b = begun-next x m s.next (λ i e. (a.begun i e).0) in let d = decided-hand x may s in let q = a.queue x in let r = a.running x in
          once_more x s.next (before x + waits x s) (times x (begun_by m)) _ (omega arith) (h.once x) (h.low x) b.1 (λ l. (b.0 l).0);
      low = λ x at. let b = begun-next x m s.next (λ i e. (a.begun i e).0) in let d = decided-hand x may s in let q = a.queue x in let r = a.running x in
          low_more x s.next (before x + waits x s) (times x (begun_by m)) _ (length (begun_by m)) (decided may s).next (omega arith) at (h.low x) b.0 a.next;
    }

effect-started : (e : Event) (s : State) (before : ℕ → ℕ) → is_awaited s e ≡ true → Started s before → Started (effect e s) before
effect-started e s before out h =
    let n = (effect-next e s).0 in
    record {
      once = λ x. let f = (effect-fewer x e s out).0 in let o = h.once x in omega arith;
      low = λ x at. let f = (effect-fewer x e s out).0 in let o = h.low x (omega arith) in omega arith;
    }

same_started : (s : State) (a b : ℕ → ℕ) → ((x : ℕ) → b x ≡ a x) → Started s a → Started s b
same_started s a b same h = record {
  once = λ x. let e = same x in let o = h.once x in omega arith;
  low = λ x at. let e = same x in h.low x (omega arith);
}

step-started : (s : State) (e : Event) (before : ℕ → ℕ) → is_awaited s e ≡ true → Started s before → Started (step s e) (λ x. before x + times x (jobs_by (actions_of (may_ask e) (effect e s))))
step-started s e before out h = decided-started (may_ask e) (effect e s) before (effect-started e s before out h)

run_from-started : (s : State) (es : List Event) (before : ℕ → ℕ) → LawfulFrom s es → Started s before → Started (run_from s es) (λ x. before x + times x (jobs (answers_from s es)))
run_from-started s [] before l h = same_started s before _ (λ x. omega arith) h
run_from-started s (e ∷ es) before l h =
    let a = jobs_by (actions_of (may_ask e) (effect e s)) in
    let rest = jobs (answers_from (step s e) es) in
    let r = run_from-started (step s e) es (λ x. before x + times x a) l.1 (step-started s e before l.0 h) in
    same_started (run_from (step s e) es) (λ x. before x + times x a + times x rest) _ (λ x. let t = times-append x a rest in omega arith) r

first-started : (terms : Terms) → Started (first terms) (λ x. 0)
first-started terms = record { once = λ x. omega arith; low = λ x at. absurd (omega arith) }

pub in_order : (terms : Terms) (es : List Event) → Lawful terms es → InOrder terms es
in_order terms es l =
    let a = jobs_by (actions_of true (first terms)) in
    let o = decided-started true (first terms) (λ x. 0) (first-started terms) in
    let r = run_from-started (opened terms) es (λ x. 0 + times x a) l o in
    record {
      begun = begun-run terms es;
      most = (run-held terms es l).next;
      once = λ x. let t = times-append x a (jobs (answers_from (opened terms) es)) in let z = r.once x in omega arith;
    }
