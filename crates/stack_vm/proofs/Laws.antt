-- Laws of the machine's definition: steps compose, an ended run stays ended, and the operation at the end of whole code is the next one.
use Rattle.std.proofs.Common.{◌≡◌, ℕ, zero, suc, ◌+◌, ◌≤◌, List, [], ◌∷◌, ◌++◌, length, Option, Some, None, refl, sym, ap, ◌∙◌, subst, length-append, arith}
use Rattle.std.specs.List.{AllByRecursion}
use Rattle.std.proofs.lemmas.Bool.{eq-eqb, ne_eqb}
use Rattle.object_format.specs.Code.{Instruction, Piece, bytes_of, size_of, spelled, IsInstruction, located}
use Rattle.object_format.specs.Image.{LinkedFn}
use Rattle.object_format.proofs.Pieces.{pieces_from-next}
use Rattle.stack_vm.specs.Acts.{Act, Outcome, Goes, Ends, Traps, Stuck, Ran, after_text, turn, step, runs}
use Rattle.stack_vm.specs.Going.{Gone, gone_after, gone_on, gone}
use Rattle.stack_vm.specs.Operation.{decoded, operations_in, operations, find_at, operation_at}
use Rattle.stack_vm.specs.declared.end.End.TheVariants as end
use Rattle.stack_vm.proofs.Loop.{after_text-nil, after_text-append}

-- ---- steps compose

gone_is : (g h : Gone) → Some g ≡ Some h → g ≡ h
gone_is g h e = cc

ran_is : (r s : Ran) → Some r ≡ Some s → r ≡ s
ran_is r s e = cc

gone_first : (fs : List LinkedFn) (m n : ℕ) (next : List Act) (text : List ℕ) (g : Gone) (q : Option Gone) → ((h : Gone) → q ≡ Some h → runs fs n next ≡ after_text h.text (runs fs m h.acts))
    → gone_after text q ≡ Some g → after_text text (runs fs n next) ≡ after_text g.text (runs fs m g.acts)
gone_first fs m n next text g None later e = absurd cc
gone_first fs m n next text g (Some h) later e =
    subst (λ (k : Gone). after_text text (runs fs n next) ≡ after_text k.text (runs fs m k.acts)) (gone_is (record { acts = h.acts; text = text ++ h.text }) g e)
    (ap (after_text text) (later h refl) ∙ after_text-append text h.text (runs fs m h.acts))

turned : (fs : List LinkedFn) (k m n : ℕ) (acts : List Act) (g : Gone) (o : Outcome) → ((next : List Act) (h : Gone) → gone fs k next ≡ Some h → runs fs n next ≡ after_text h.text (runs fs m h.acts))
    → gone_on (gone fs k) o ≡ Some g → turn acts (runs fs n) o ≡ after_text g.text (runs fs m g.acts)
turned fs k m n acts g (Goes next text) later e = gone_first fs m n next text g (gone fs k next) (later next) e
turned fs k m n acts g Ends later e = absurd cc
turned fs k m n acts g (Traps kind) later e = absurd cc
turned fs k m n acts g Stuck later e = absurd cc

-- a run goes k steps and then m
pub runs-gone : (fs : List LinkedFn) (k m : ℕ) (acts : List Act) (g : Gone) → gone fs k acts ≡ Some g → runs fs (k + m) acts ≡ after_text g.text (runs fs m g.acts)
runs-gone fs zero m acts g e =
    let none : 0 + m ≡ m = omega arith in
    subst (λ (h : Gone). runs fs (0 + m) acts ≡ after_text h.text (runs fs m h.acts)) (gone_is (record { acts = acts; text = [] }) g e)
    (ap (λ (n : ℕ). runs fs n acts) none ∙ sym (after_text-nil (runs fs m acts)))
runs-gone fs (suc k) m acts g e =
    let one : suc k + m ≡ suc (k + m) = omega arith in
    ap (λ (n : ℕ). runs fs n acts) one ∙ turned fs k m (k + m) acts g (step fs acts) (λ next h is. runs-gone fs k m next h is) e

-- ---- an ended run stays ended

ended_first : (fs : List LinkedFn) (n : ℕ) (next : List Act) (text : List ℕ) (r : Ran) (q : Option Ran) → ((s : Ran) → q ≡ Some s → (s.how ≡ end.OutOfSteps → ⊥) → runs fs n next ≡ Some s)
    → (r.how ≡ end.OutOfSteps → ⊥) → after_text text q ≡ Some r → after_text text (runs fs n next) ≡ Some r
ended_first fs n next text r None later ended e = absurd cc
ended_first fs n next text r (Some s) later ended e =
    let same = ran_is (record { how = s.how; text = text ++ s.text }) r e in
    ap (after_text text) (later s refl (λ out. ended (sym (ap (λ (x : Ran). x.how) same) ∙ out))) ∙ e

still : (fs : List LinkedFn) (n m : ℕ) (acts : List Act) (r : Ran) (o : Outcome) → ((next : List Act) (s : Ran) → runs fs n next ≡ Some s → (s.how ≡ end.OutOfSteps → ⊥) → runs fs m next ≡ Some s)
    → (r.how ≡ end.OutOfSteps → ⊥) → turn acts (runs fs n) o ≡ Some r → turn acts (runs fs m) o ≡ Some r
still fs n m acts r (Goes next text) later ended e = ended_first fs m next text r (runs fs n next) (later next) ended e
still fs n m acts r Ends later ended e = e
still fs n m acts r (Traps kind) later ended e = e
still fs n m acts r Stuck later ended e = absurd cc

pub runs-ended : (fs : List LinkedFn) (n m : ℕ) (acts : List Act) (r : Ran) → (r.how ≡ end.OutOfSteps → ⊥) → runs fs n acts ≡ Some r → runs fs (n + m) acts ≡ Some r
runs-ended fs zero m acts r ended e = absurd (ended (sym (ap (λ (x : Ran). x.how) (ran_is (record { how = end.OutOfSteps; text = [] }) r e))))
runs-ended fs (suc n) m acts r ended e =
    let one : suc n + m ≡ suc (n + m) = omega arith in
    ap (λ (k : ℕ). runs fs k acts) one ∙ still fs n (n + m) acts r (step fs acts) (λ next s is out. runs-ended fs n m next s out is) ended e

-- ---- the operation at the end of whole code

find_at-past : (offset : ℕ) (is : List Instruction) (ps : List Piece) (n : ℕ) → AllByRecursion IsInstruction is → offset + length (spelled is) ≤ n
    → find_at (operations_in (located offset is ++ ps)) n ≡ find_at (operations_in ps) n
find_at-past offset [] ps n h le = refl
find_at-past offset (i ∷ is) ps n h le =
    let long : offset + size_of i + length (spelled is) ≤ n = omega (arith, le, length-append (bytes_of i) (spelled is), h.0) in
    rw (ne_eqb offset n (λ e. absurd (omega (arith, long, e)))) (find_at-past (offset + size_of i) is ps n h.1 long)

-- where an instruction stands after whole code, the machine finds what it does
pub fetched : (before : List Instruction) (i : Instruction) (code : List ℕ) → AllByRecursion IsInstruction before → IsInstruction i
    → operation_at (spelled before ++ (bytes_of i ++ code)) (length (spelled before)) ≡ Some (decoded i)
unfolding operations
fetched before i code h whole =
    let n = length (spelled before) in
    let place : 0 + n ≡ n = omega arith in
    ap (λ ps. find_at (operations_in ps) n) (pieces_from-next 0 before i code h whole)
    ∙ find_at-past 0 before _ n h (omega arith)
    ∙ rw (eq-eqb (0 + n) n place) refl
