-- An instruction that stays in its function does on the stack what it does on the acts.
use Rattle.std.proofs.Common.{◌≡◌, ℕ, ◌+◌, ◌-◌, ◌<◌, ◌≤◌, List, [], ◌∷◌, ◌++◌, length, take, drop, get_or, slice_set, ℤ, pos, Bool, true, ◌&&◌, if◌then◌else◌, Result, Ok, refl, arith, sym, ◌∙◌, ap, subst, length-drop, append-nil}
use Rattle.std.proofs.lemmas.List.{length-take, get_or-take}
use Rattle.std.proofs.lemmas.Bool.Decides.{nat_tests}
use Rattle.std.specs.Prelude.{nat_le}
use Rattle.stack_vm.specs.Operation.{takes}
use Rattle.stack_vm.specs.Effect.{under, pushes, goes_on, after, one}
use Rattle.stack_vm.specs.Running.{act}
use Rattle.stack_vm.specs.Acts.{Act, Outcome, Goes, slots_after, has_slot, prints, pushing, staying}
use Rattle.stack_vm.proofs.Stack.{under_drop, slots_stay, operands_are, stored_slots, stored_operands}
use Rattle.stack_vm.specs.declared.operation.Operation.{Operation}
use Rattle.stack_vm.specs.declared.operation.Operation.TheVariants.{Push8, Push64, Load, Store, Pop, Dup, Nop, Compute, Neg, Not, Jump, JumpZero, Call, Return, Print, Trap}
use Rattle.stack_vm.specs.declared.machine.State.{State}
use Rattle.stack_vm.specs.declared.end.Kind.{Kind}

-- an instruction does the same where the words are the same that it reads
pub record Same (i : Operation) (place : ℕ) (S T : List ℤ) (a c b d : ℤ) : Type 0 where
  pub pushed : pushes i S a b ≡ pushes i T c d
  pub goes : goes_on i place b ≡ goes_on i place d
  pub printed : prints i b ≡ prints i d

pub same : (i : Operation) (place : ℕ) (S T : List ℤ) (a c b d : ℤ) → (((s : ℕ) → i ≡ Load s → get_or S s (pos 0) ≡ get_or T s (pos 0))) → (1 ≤ takes i → b ≡ d) → (2 ≤ takes i → a ≡ c) → Same i place S T a c b d
same (Push8 n) place S T a c b d l p q = record { pushed = refl; goes = refl; printed = refl }
same (Push64 n) place S T a c b d l p q = record { pushed = refl; goes = refl; printed = refl }
same Nop place S T a c b d l p q = record { pushed = refl; goes = refl; printed = refl }
same (Jump to) place S T a c b d l p q = record { pushed = refl; goes = refl; printed = refl }
same (Call k) place S T a c b d l p q = record { pushed = refl; goes = refl; printed = refl }
same Return place S T a c b d l p q = record { pushed = refl; goes = refl; printed = refl }
same Trap place S T a c b d l p q = record { pushed = refl; goes = refl; printed = refl }
same (Load s) place S T a c b d l p q = record { pushed = ap (λ (x : ℤ). one x) (l s refl); goes = refl; printed = refl }
same (Store s) place S T a c b d l p q = let e : b ≡ d = p (omega arith) in rw e (record { pushed = refl; goes = refl; printed = refl })
same Pop place S T a c b d l p q = let e : b ≡ d = p (omega arith) in rw e (record { pushed = refl; goes = refl; printed = refl })
same Dup place S T a c b d l p q = let e : b ≡ d = p (omega arith) in rw e (record { pushed = refl; goes = refl; printed = refl })
same Neg place S T a c b d l p q = let e : b ≡ d = p (omega arith) in rw e (record { pushed = refl; goes = refl; printed = refl })
same Not place S T a c b d l p q = let e : b ≡ d = p (omega arith) in rw e (record { pushed = refl; goes = refl; printed = refl })
same (JumpZero to) place S T a c b d l p q = let e : b ≡ d = p (omega arith) in rw e (record { pushed = refl; goes = refl; printed = refl })
same Print place S T a c b d l p q = let e : b ≡ d = p (omega arith) in rw e (record { pushed = refl; goes = refl; printed = refl })
same (Compute o) place S T a c b d l p q = let e : b ≡ d = p (omega arith) in let f : a ≡ c = q (omega arith) in rw (e, f) (record { pushed = refl; goes = refl; printed = refl })

pub chosen : (b c : Bool) (x y : Outcome) → b ≡ true → c ≡ true → (if b && c then x else y) ≡ x
chosen b c x y e f = rw (e, f) refl

abbrev pub made : ℕ → ℕ → List ℤ → List ℤ → Act
made n p ss os = record { number = n; place = p; slots = ss; operands = os }

pub built : (m n p q : ℕ) (ss tt os us : List ℤ) → m ≡ n → p ≡ q → ss ≡ tt → os ≡ us → made m p ss os ≡ made n q tt us
built m n p q ss tt os us a b c d = rw (a, b, c, d) refl

pub goes_same : (x y : Act) (rest : List Act) (ps qs : List ℕ) → x ≡ y → ps ≡ qs → Goes (x ∷ rest) ps ≡ Goes (y ∷ rest) qs
goes_same x y rest ps qs a b = rw (a, b) refl

pub record Plain (i : Operation) : Type 0 where
  pub words : (base : ℕ) (V p : List ℤ) → after i base V p ≡ take (length V - takes i) V ++ p
  pub slots : (S : List ℤ) (b : ℤ) → slots_after i S b ≡ S

pub slot_low : (i : Operation) (s count : ℕ) → has_slot i count ≡ true → i ≡ Load s → s < count
slot_low i s count h e = let g : has_slot (Load s) count ≡ true = subst (λ (j : Operation). has_slot j count ≡ true) e h in grind (arith, nat_tests, g)

pub enough : (n m : ℕ) → n ≤ m → nat_le n m ≡ true
enough n m h = grind (arith, nat_tests)

pub stays_plain : (i : Operation) (count : ℕ) (s t : State) (V now pushed : List ℤ) (rest : List Act) → Plain i
    → s.base + count + takes i ≤ length V → has_slot i count ≡ true
    → pushes i (drop s.base V) (under V 1) (under V 0) ≡ Ok pushed → now ≡ after i s.base V pushed
    → t.number ≡ s.number → t.base ≡ s.base → t.place ≡ goes_on i s.place (under V 0)
    → staying i (act count s V) rest ≡ Goes (act count t now ∷ rest) (prints i (under V 0))
stays_plain i count s t V now pushed rest plain room slot is after_is number base place =
    let n = s.base in
    let m = s.base + count in
    let os : List ℤ = drop m V in
    let S : List ℤ = take count (drop n V) in
    let long : length os ≡ length V - m = length-drop m V in
    let sm : Same i s.place S (drop n V) (under os 1) (under V 1) (under os 0) (under V 0) =
    same i s.place S (drop n V) (under os 1) (under V 1) (under os 0) (under V 0) (λ k e. get_or-take count (drop n V) k (pos 0) (slot_low i k count slot e)) (λ h. under_drop V m 0 (omega (arith, room))) (λ h. under_drop V m 1 (omega (arith, room))) in
    let le : nat_le (takes i) (length os) ≡ true = enough (takes i) (length os) (omega (arith, room, long)) in
    let all : length S ≡ count = omega (arith, length-take count (drop n V), length-drop n V, room) in
    let hs : has_slot i (length S) ≡ true = subst (λ (k : ℕ). has_slot i k ≡ true) (sym all) slot in
    let words : now ≡ take (length V - takes i) V ++ pushed = after_is ∙ plain.words n V pushed in
    let taken : length os - takes i ≡ (length V - takes i) - m = omega (arith, long) in
    chosen _ _ _ _ le hs
    ∙ (ap (λ (r : Result (List ℤ) Kind). pushing i (act count s V) rest r) (sm.pushed ∙ is)
    ∙ goes_same _ _ rest _ _
    (built s.number t.number (goes_on i s.place (under os 0)) t.place (slots_after i S (under os 0)) (take count (drop t.base now)) (take (length os - takes i) os ++ pushed) (drop (t.base + count) now)
    (sym number)
    (sm.goes ∙ sym place)
    (plain.slots S (under os 0) ∙ sym (rw (base, words) (slots_stay V pushed n count (length V - takes i) (omega (arith, room)) (omega arith))))
    (rw taken (sym (rw (base, words) (operands_are V pushed m (length V - takes i) (omega (arith, room)) (omega arith))))))
    sm.printed)

pub below_is : (k count : ℕ) → k < count → has_slot (Store k) count ≡ true
below_is k count h = grind (arith, nat_tests)

stays_store : (k count : ℕ) (s t : State) (V now pushed : List ℤ) (rest : List Act)
    → s.base + count + 1 ≤ length V → k < count
    → now ≡ after (Store k) s.base V pushed
    → t.number ≡ s.number → t.base ≡ s.base → t.place ≡ s.place + 2
    → staying (Store k) (act count s V) rest ≡ Goes (act count t now ∷ rest) []
stays_store k count s t V now pushed rest room slot words number base place =
    let n = s.base in
    let m = s.base + count in
    let l = length V - 1 in
    let os : List ℤ = drop m V in
    let S : List ℤ = take count (drop n V) in
    let long : length os ≡ length V - m = length-drop m V in
    let le : nat_le 1 (length os) ≡ true = enough 1 (length os) (omega (arith, room, long)) in
    let all : length S ≡ count = omega (arith, length-take count (drop n V), length-drop n V, room) in
    let hs : has_slot (Store k) (length S) ≡ true = subst (λ (c : ℕ). has_slot (Store k) c ≡ true) (sym all) (below_is k count slot) in
    let top : under os 0 ≡ under V 0 = under_drop V m 0 (omega (arith, room)) in
    let taken : length os - 1 ≡ l - m = omega (arith, long) in
    chosen _ _ _ _ le hs
    ∙ goes_same _ _ rest _ _
    (built s.number t.number (s.place + 2) t.place (slice_set S k (under os 0)) (take count (drop t.base now)) (take (length os - 1) os ++ []) (drop (t.base + count) now)
    (sym number)
    (sym place)
    (rw top (sym (rw (base, words) (stored_slots V n count k l (under V 0) slot (omega (arith, room))))))
    (rw (append-nil, taken) (sym (rw (base, words) (stored_operands V n count k l (under V 0) slot (omega (arith, room)))))))
    refl

-- an instruction that stays in its function does on the stack what it does on the acts
pub stays : (i : Operation) (count : ℕ) (s t : State) (V now pushed : List ℤ) (rest : List Act)
    → s.base + count + takes i ≤ length V → has_slot i count ≡ true
    → pushes i (drop s.base V) (under V 1) (under V 0) ≡ Ok pushed → now ≡ after i s.base V pushed
    → t.number ≡ s.number → t.base ≡ s.base → t.place ≡ goes_on i s.place (under V 0)
    → staying i (act count s V) rest ≡ Goes (act count t now ∷ rest) (prints i (under V 0))
stays (Store k) count s t V now pushed rest room slot is words number base place =
    let low : k < count = grind (arith, nat_tests, slot) in
    stays_store k count s t V now pushed rest room low words number base place
stays (Push8 n) count s t V now pushed rest a b c d e f g = stays_plain (Push8 n) count s t V now pushed rest (record { words = λ n V p. refl; slots = λ S b. refl }) a b c d e f g
stays (Push64 n) count s t V now pushed rest a b c d e f g = stays_plain (Push64 n) count s t V now pushed rest (record { words = λ n V p. refl; slots = λ S b. refl }) a b c d e f g
stays (Load k) count s t V now pushed rest a b c d e f g = stays_plain (Load k) count s t V now pushed rest (record { words = λ n V p. refl; slots = λ S b. refl }) a b c d e f g
stays Pop count s t V now pushed rest a b c d e f g = stays_plain Pop count s t V now pushed rest (record { words = λ n V p. refl; slots = λ S b. refl }) a b c d e f g
stays Dup count s t V now pushed rest a b c d e f g = stays_plain Dup count s t V now pushed rest (record { words = λ n V p. refl; slots = λ S b. refl }) a b c d e f g
stays Nop count s t V now pushed rest a b c d e f g = stays_plain Nop count s t V now pushed rest (record { words = λ n V p. refl; slots = λ S b. refl }) a b c d e f g
stays (Compute o) count s t V now pushed rest a b c d e f g = stays_plain (Compute o) count s t V now pushed rest (record { words = λ n V p. refl; slots = λ S b. refl }) a b c d e f g
stays Neg count s t V now pushed rest a b c d e f g = stays_plain Neg count s t V now pushed rest (record { words = λ n V p. refl; slots = λ S b. refl }) a b c d e f g
stays Not count s t V now pushed rest a b c d e f g = stays_plain Not count s t V now pushed rest (record { words = λ n V p. refl; slots = λ S b. refl }) a b c d e f g
stays (Jump to) count s t V now pushed rest a b c d e f g = stays_plain (Jump to) count s t V now pushed rest (record { words = λ n V p. refl; slots = λ S b. refl }) a b c d e f g
stays (JumpZero to) count s t V now pushed rest a b c d e f g = stays_plain (JumpZero to) count s t V now pushed rest (record { words = λ n V p. refl; slots = λ S b. refl }) a b c d e f g
stays (Call k) count s t V now pushed rest a b c d e f g = stays_plain (Call k) count s t V now pushed rest (record { words = λ n V p. refl; slots = λ S b. refl }) a b c d e f g
stays Return count s t V now pushed rest a b c d e f g = stays_plain Return count s t V now pushed rest (record { words = λ n V p. refl; slots = λ S b. refl }) a b c d e f g
stays Print count s t V now pushed rest a b c d e f g = stays_plain Print count s t V now pushed rest (record { words = λ n V p. refl; slots = λ S b. refl }) a b c d e f g
stays Trap count s t V now pushed rest a b c d e f g = stays_plain Trap count s t V now pushed rest (record { words = λ n V p. refl; slots = λ S b. refl }) a b c d e f g
