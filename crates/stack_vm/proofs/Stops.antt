-- What lies below a frame stays, and what traps on the stack traps on the acts.
use Rattle.std.proofs.Common.{◌≡◌, ℕ, ◌+◌, ◌-◌, ◌<◌, ◌≤◌, ◌⊎◌, inl, inr, List, ◌∷◌, length, take, drop, slice_get, reverse, ℤ, pos, Bool, true, false, ◌||◌, if◌then◌else◌, Some, Result, Err, refl, arith, sym, ◌∙◌, ap, subst, length-drop}
use Rattle.std.specs.Prelude.{nat_le, nat_lt}
use Rattle.std.proofs.lemmas.List.{length-take, get_or-take, length-reverse}
use Rattle.std.proofs.lemmas.Bool.Decides.{nat_tests}
use Rattle.stack_vm.specs.Operation.{takes, operation_at}
use Rattle.stack_vm.specs.Heights.{greatest_of}
use Rattle.stack_vm.specs.Effect.{under, pushes, after, is_inner}
use Rattle.stack_vm.specs.Sound.{IsFine}
use Rattle.stack_vm.specs.Standing.{height, TooDeep}
use Rattle.stack_vm.specs.Running.{act, seen}
use Rattle.stack_vm.specs.Acts.{Act, Outcome, Traps, pushing, calling, step, has_slot, words_of}
use Rattle.stack_vm.proofs.Stack.{front_stays, stored_front, under_drop}
use Rattle.stack_vm.proofs.Stays.{Same, same, slot_low, enough, chosen}
use Rattle.stack_vm.proofs.Turns.{length-seen, no_test}
use Rattle.stack_vm.proofs.Moves.{fine_room, obey_inner}
use Rattle.stack_vm.specs.declared.operation.Operation.{Operation}
use Rattle.stack_vm.specs.declared.operation.Operation.TheVariants.{Push8, Push64, Load, Store, Pop, Dup, Nop, Compute, Neg, Not, Jump, JumpZero, Call, Return, Print, Trap}
use Rattle.object_format.specs.Image.{LinkedFn}
use Rattle.stack_vm.specs.declared.machine.State.{State}
use Rattle.stack_vm.specs.declared.machine.Frame.{Frame}
use Rattle.stack_vm.specs.declared.end.Kind.{Kind}
use Rattle.stack_vm.specs.declared.end.Kind.TheVariants as kinds

-- what lies below the frame stays
pub after_front : (i : Operation) (n count : ℕ) (V pushed : List ℤ) → n + count + takes i ≤ length V → take n (after i n V pushed) ≡ take n V
after_front (Push8 x) n count V pushed room = front_stays V pushed n (length V - takes (Push8 x)) (omega (arith, room)) (omega arith)
after_front (Push64 x) n count V pushed room = front_stays V pushed n (length V - takes (Push64 x)) (omega (arith, room)) (omega arith)
after_front (Load k) n count V pushed room = front_stays V pushed n (length V - takes (Load k)) (omega (arith, room)) (omega arith)
after_front (Store k) n count V pushed room = stored_front V n k (length V - 1) (under V 0) (omega (arith, room))
after_front Pop n count V pushed room = front_stays V pushed n (length V - takes Pop) (omega (arith, room)) (omega arith)
after_front Dup n count V pushed room = front_stays V pushed n (length V - takes Dup) (omega (arith, room)) (omega arith)
after_front Nop n count V pushed room = front_stays V pushed n (length V - takes Nop) (omega (arith, room)) (omega arith)
after_front (Compute o) n count V pushed room = front_stays V pushed n (length V - takes (Compute o)) (omega (arith, room)) (omega arith)
after_front Neg n count V pushed room = front_stays V pushed n (length V - takes Neg) (omega (arith, room)) (omega arith)
after_front Not n count V pushed room = front_stays V pushed n (length V - takes Not) (omega (arith, room)) (omega arith)
after_front (Jump to) n count V pushed room = front_stays V pushed n (length V - takes (Jump to)) (omega (arith, room)) (omega arith)
after_front (JumpZero to) n count V pushed room = front_stays V pushed n (length V - takes (JumpZero to)) (omega (arith, room)) (omega arith)
after_front (Call k) n count V pushed room = front_stays V pushed n (length V - takes (Call k)) (omega (arith, room)) (omega arith)
after_front Return n count V pushed room = front_stays V pushed n (length V - takes Return) (omega (arith, room)) (omega arith)
after_front Print n count V pushed room = front_stays V pushed n (length V - takes Print) (omega (arith, room)) (omega arith)
after_front Trap n count V pushed room = front_stays V pushed n (length V - takes Trap) (omega (arith, room)) (omega arith)

inner_err : (i : Operation) (S : List ℤ) (a b : ℤ) (kind : Kind) → pushes i S a b ≡ Err kind → is_inner i ≡ true
inner_err (Push8 n) S a b kind e = refl
inner_err (Push64 n) S a b kind e = refl
inner_err (Load k) S a b kind e = refl
inner_err (Store k) S a b kind e = refl
inner_err Pop S a b kind e = refl
inner_err Dup S a b kind e = refl
inner_err Nop S a b kind e = refl
inner_err (Compute o) S a b kind e = refl
inner_err Neg S a b kind e = refl
inner_err Not S a b kind e = refl
inner_err (Jump to) S a b kind e = refl
inner_err (JumpZero to) S a b kind e = refl
inner_err (Call k) S a b kind e = absurd (cc)
inner_err Return S a b kind e = absurd (cc)
inner_err Print S a b kind e = refl
inner_err Trap S a b kind e = refl

-- an instruction that traps on the stack traps on the acts
pub traps : (fs : List LinkedFn) (f : LinkedFn) (s : State) (V : List ℤ) (i : Operation) (rest : List Act) (kind : Kind)
    → slice_get fs s.number ≡ Some f → operation_at f.code s.place ≡ Some i → IsFine fs f s.place (height f s) i → length V ≡ s.top → s.base + f.slots ≤ s.top
    → pushes i (drop s.base V) (under V 1) (under V 0) ≡ Err kind → step fs (act f.slots s V ∷ rest) ≡ Traps kind
traps fs f s V i rest kind is at fine long above err =
    let inner = inner_err i _ _ _ kind err in
    let r = fine_room fs f s.place (height f s) i fine inner in
    let m = s.base + f.slots in
    let os : List ℤ = drop m V in
    let S : List ℤ = take f.slots (drop s.base V) in
    let many : length os ≡ length V - m = length-drop m V in
    let sm : Same i s.place S (drop s.base V) (under os 1) (under V 1) (under os 0) (under V 0) =
    same i s.place S (drop s.base V) (under os 1) (under V 1) (under os 0) (under V 0) (λ k e. get_or-take f.slots (drop s.base V) k (pos 0) (slot_low i k f.slots r.1 e)) (λ h. under_drop V m 0 (omega (arith, r.0, long))) (λ h. under_drop V m 1 (omega (arith, r.0, long))) in
    let le : nat_le (takes i) (length os) ≡ true = enough (takes i) (length os) (omega (arith, r.0, many, long)) in
    let all : length S ≡ f.slots = omega (arith, length-take f.slots (drop s.base V), length-drop s.base V, long, above) in
    let hs : has_slot i (length S) ≡ true = subst (λ (k : ℕ). has_slot i k ≡ true) (sym all) r.1 in
    rw (is, at) (obey_inner fs i (act f.slots s V) rest inner
    ∙ (chosen _ _ _ _ le hs ∙ ap (λ (x : Result (List ℤ) Kind). pushing i (act f.slots s V) rest x) (sm.pushed ∙ err)))

over : (n m : ℕ) → n < m → nat_lt n m ≡ true
over n m h = grind (arith, nat_tests)

second : (a b c : Bool) (x y z : Outcome) → a ≡ false → (b ≡ true) ⊎ (c ≡ true) → (if a then x else (if b || c then y else z)) ≡ y
second a true c x y z p q = rw p refl
second a false c x y z p (inl e) = absurd (cc)
second a false c x y z p (inr e) = rw (p, e) refl

pub too_deep : (fs : List LinkedFn) (f g : LinkedFn) (k : ℕ) (s : State) (V : List ℤ) (old : List Frame)
    → length V ≡ s.top → s.base + f.slots + g.params ≤ length V → s.below ≡ words_of (seen fs (reverse old) (take s.base V)) → TooDeep fs g f s (length old)
    → calling fs k (Some g) (act f.slots s V) (seen fs (reverse old) (take s.base V)) ≡ Traps kinds.Depth
too_deep fs f g k s V old long room below deep =
    let m = s.base + f.slots in
    let os : List ℤ = drop m V in
    let rest : List Act = seen fs (reverse old) (take s.base V) in
    let many : length os ≡ length V - m = length-drop m V in
    let count : length rest ≡ length old = length-seen fs (reverse old) (take s.base V) ∙ length-reverse old in
    second _ _ _ _ _ _ (no_test (length os) g.params (omega (arith, many, room)))
    (elim deep [
      | inl d ↦ inl (over 9999 (length rest + 1) (omega (arith, count, d)))
      | inr d ↦ inr (over 1048576 (((length os - g.params) + words_of rest) + greatest_of fs g) (omega (arith, d, below, many, long)))
    ])
