-- The machine never gets stuck where each function is sound: every step finds its function, its instruction, its words and its slot.
use Rattle.std.proofs.Common.{◌≡◌, ℕ, zero, suc, ◌+◌, ◌-◌, ◌<◌, ◌≤◌, List, [], ◌∷◌, ◌++◌, length, take, drop, replicate, slice_get, ℤ, pos, Bool, true, false, ltb, leb, cond, ◌||◌, Option, Some, Result, Ok, Err, refl, arith, ◌∙◌, ap, subst, length-append, length-drop, length-set, get_or, inl, inr}
use Rattle.std.specs.Prelude.{nat_lt}
use Rattle.std.specs.Ordering.{int_eq}
use Rattle.std.proofs.lemmas.Bool.{lt-ltb, le-leb, le-ltb, cases_Bool}
use Rattle.std.proofs.lemmas.List.{length-take, length-replicate}
use Rattle.std.proofs.lemmas.Option.{slice_get-get_or}
use Rattle.object_format.specs.Image.{LinkedFn}
use Rattle.stack_vm.specs.Operation.{size, takes}
use Rattle.stack_vm.specs.Heights.{greatest_of}
use Rattle.stack_vm.specs.Sound.{At, Leaves, IsFine, IsSound, AllSound}
use Rattle.stack_vm.specs.Words.{computed}
use Rattle.stack_vm.specs.Effect.{under, alone, pushes, goes_on}
use Rattle.stack_vm.specs.Acts.{Act, Outcome, Goes, Ends, Traps, Stuck, slots_after, has_slot, pushing, staying, words_of, calling, returning, obey, step, Ran, after_text, trap_at, turn, runs, begun_at, runs_from}
use Rattle.stack_vm.specs.declared.operation.Operation.{Operation}
use Rattle.stack_vm.specs.declared.operation.Operation.TheVariants.{Push8, Push64, Load, Store, Pop, Dup, Nop, Compute, Neg, Not, Jump, JumpZero, Call, Return, Print, Trap}
use Rattle.stack_vm.specs.declared.end.Kind.{Kind}
use Rattle.stack_vm.specs.declared.end.Kind.TheVariants as kinds
use Rattle.stack_vm.specs.declared.end.End.TheVariants as end

-- ---- how the functions at work stand

-- a function that works, or waits, stands at an instruction with so many words
record Works (fs : List LinkedFn) (a : Act) (f : LinkedFn) (height : ℕ) : Type 0 where
  pub is : slice_get fs a.number ≡ Some f
  pub slots : length a.slots ≡ f.slots
  pub here : At fs f a.place height

-- those that wait for a function that leaves so many words
abbrev Wait : List LinkedFn → ℕ → List Act → Type 0
Wait fs left [] = Unit {0}
Wait fs left (b ∷ bs) = (g : LinkedFn) × Works fs b g (length b.operands + left) × Wait fs g.«result» bs

abbrev Work : List LinkedFn → List Act → Type 0
Work fs [] = ⊥
Work fs (a ∷ rest) = (f : LinkedFn) × Works fs a f (length a.operands) × Wait fs f.«result» rest

-- a step that leads on, ends or traps
abbrev Leads : List LinkedFn → Outcome → Type 0
Leads fs (Goes acts text) = Work fs acts
Leads fs Ends = Unit {0}
Leads fs (Traps kind) = Unit {0}
Leads fs Stuck = ⊥

-- ---- an instruction that stays in its function

slots_kept : (i : Operation) (slots : List ℤ) (b : ℤ) → length (slots_after i slots b) ≡ length slots
slots_kept (Store s) slots b = length-set slots s b
slots_kept i slots b = refl

-- what it pushes has this length
abbrev Pushes : Result (List ℤ) Kind → ℕ → Type 0
Pushes (Ok pushed) n = length pushed ≡ n
Pushes (Err kind) n = Unit {0}

pushes_alone : (r : Result ℤ Kind) → Pushes (alone r) 1
pushes_alone (Ok x) = refl
pushes_alone (Err kind) = tt

pushed_on : (fs : List LinkedFn) (f : LinkedFn) (i : Operation) (a : Act) (rest : List Act) (n : ℕ) (r : Result (List ℤ) Kind)
    → Works fs a f (length a.operands) → Wait fs f.«result» rest → Pushes r n → At fs f (goes_on i a.place (under a.operands 0)) ((length a.operands - takes i) + n) → Leads fs (pushing i a rest r)
pushed_on fs f i a rest n (Err kind) w wait long next = tt
pushed_on fs f i a rest n (Ok pushed) w wait long next =
    let height : (length a.operands - takes i) + n ≡ length (take (length a.operands - takes i) a.operands ++ pushed) = omega (arith, length-append (take (length a.operands - takes i) a.operands) pushed, length-take (length a.operands - takes i) a.operands, long) in (
      f,
      record {
        is = w.is;
        slots = slots_kept i a.slots (under a.operands 0) ∙ w.slots;
        here = subst (λ (k : ℕ). At fs f (goes_on i a.place (under a.operands 0)) k) height next;
      },
      wait,
    )

stays_on : (fs : List LinkedFn) (f : LinkedFn) (i : Operation) (a : Act) (rest : List Act) (n : ℕ)
    → Works fs a f (length a.operands) → Wait fs f.«result» rest → takes i ≤ length a.operands → has_slot i (length a.slots) ≡ true
    → Pushes (pushes i a.slots (under a.operands 1) (under a.operands 0)) n
    → At fs f (goes_on i a.place (under a.operands 0)) ((length a.operands - takes i) + n) → Leads fs (staying i a rest)
stays_on fs f i a rest n w wait enough slot long next =
    let there : leb (takes i) (length a.operands) ≡ true = le-leb (takes i) (length a.operands) enough in
    rw (there, slot) (pushed_on fs f i a rest n (pushes i a.slots (under a.operands 1) (under a.operands 0)) w wait long next)

-- where the height is the one that is left
inner : (fs : List LinkedFn) (f : LinkedFn) (i : Operation) (a : Act) (rest : List Act) (n place : ℕ)
    → Works fs a f (length a.operands) → Wait fs f.«result» rest → has_slot i (length a.slots) ≡ true → Leaves fs f place (length a.operands) (takes i) n
    → Pushes (pushes i a.slots (under a.operands 1) (under a.operands 0)) n → place ≡ goes_on i a.place (under a.operands 0) → Leads fs (staying i a rest)
inner fs f i a rest n place w wait slot l long is =
    stays_on fs f i a rest n w wait l.there slot long (subst (λ (p : ℕ). At fs f p ((length a.operands - takes i) + n)) is l.next)

slot_there : (f : LinkedFn) (a : Act) (s : ℕ) → length a.slots ≡ f.slots → s < f.slots → nat_lt s (length a.slots) ≡ true
slot_there f a s is lt = lt-ltb s (length a.slots) (omega (arith, is, lt))

jumps_on : (fs : List LinkedFn) (f : LinkedFn) (to on height : ℕ) (b : Bool) → At fs f to height → At fs f on height → At fs f (cond b to on) height
jumps_on fs f to on height true x y = x
jumps_on fs f to on height false x y = y

-- ---- a call and a return

called : (fs : List LinkedFn) (f g : LinkedFn) (k : ℕ) (a : Act) (rest : List Act) (b c : Bool)
    → Works fs a f (length a.operands) → Wait fs f.«result» rest → slice_get fs k ≡ Some g → IsSound fs g → Leaves fs f (a.place + 5) (length a.operands) g.params g.«result»
    → Leads fs (cond (b || c) (Traps kinds.Depth) (Goes
    (record { number = k; place = 0; slots = drop (length a.operands - g.params) a.operands ++ replicate (g.slots - g.params) (pos 0); operands = [] }
    ∷ record { number = a.number; place = a.place + size (Call k); slots = a.slots; operands = take (length a.operands - g.params) a.operands }
    ∷ rest)
    []))
called fs f g k a rest true c w wait is sound l = tt
called fs f g k a rest false true w wait is sound l = tt
called fs f g k a rest false false w wait is sound l =
    let n = length a.operands in
    let slots : length (drop (n - g.params) a.operands ++ replicate (g.slots - g.params) (pos 0)) ≡ g.slots =
    omega (arith, length-append (drop (n - g.params) a.operands) (replicate (g.slots - g.params) (pos 0)), length-drop (n - g.params) a.operands, length-replicate (g.slots - g.params) (pos 0), l.there, sound.params) in
    let left : (n - g.params) + g.«result» ≡ length (take (n - g.params) a.operands) + g.«result» = omega (arith, length-take (n - g.params) a.operands) in (
      g,
      record { is = is; slots = slots; here = sound.start },
      (f, record { is = w.is; slots = w.slots; here = subst (λ (h : ℕ). At fs f (a.place + 5) h) left l.next }, wait),
    )

calls : (fs : List LinkedFn) (f : LinkedFn) (k : ℕ) (a : Act) (rest : List Act) → AllSound fs → Works fs a f (length a.operands) → Wait fs f.«result» rest
    → (k < length fs) × ((g : LinkedFn) → slice_get fs k ≡ Some g → Leaves fs f (a.place + 5) (length a.operands) g.params g.«result») → Leads fs (calling fs k (slice_get fs k) a rest)
calls fs f k a rest all w wait fine =
    let g : LinkedFn = get_or fs k f in
    let is : slice_get fs k ≡ Some g = slice_get-get_or fs k f fine.0 in
    let l = fine.1 g is in
    rw (is, le-ltb (length a.operands) g.params l.there) (called fs f g k a rest (ltb 9999 (length rest + 1)) (ltb 1048576 (((length a.operands - g.params) + words_of rest) + greatest_of fs g)) w wait is (all k g is) l)

returns_on : (fs : List LinkedFn) (f : LinkedFn) (a : Act) (rest : List Act) → Wait fs f.«result» rest → length a.operands ≡ f.«result» → Leads fs (returning a rest)
returns_on fs f a [] wait height = tt
returns_on fs f a (b ∷ bs) wait height =
    let left : length b.operands + f.«result» ≡ length (b.operands ++ a.operands) = omega (arith, length-append b.operands a.operands, height) in
    (wait.0, record { is = wait.1.is; slots = wait.1.slots; here = subst (λ (h : ℕ). At fs wait.0 b.place h) left wait.1.here }, wait.2)

-- ---- a step

obeys : (fs : List LinkedFn) (f : LinkedFn) (i : Operation) (a : Act) (rest : List Act) → AllSound fs → Works fs a f (length a.operands) → Wait fs f.«result» rest
    → IsFine fs f a.place (length a.operands) i → Leads fs (obey fs (Some i) a rest)
obeys fs f (Push8 x) a rest all w wait l = inner fs f (Push8 x) a rest 1 (a.place + 2) w wait refl l refl refl
obeys fs f (Push64 x) a rest all w wait l = inner fs f (Push64 x) a rest 1 (a.place + 9) w wait refl l refl refl
obeys fs f (Load s) a rest all w wait l = inner fs f (Load s) a rest 1 (a.place + 2) w wait (slot_there f a s w.slots l.0) l.1 refl refl
obeys fs f (Store s) a rest all w wait l = inner fs f (Store s) a rest 0 (a.place + 2) w wait (slot_there f a s w.slots l.0) l.1 refl refl
obeys fs f Pop a rest all w wait l = inner fs f Pop a rest 0 (a.place + 1) w wait refl l refl refl
obeys fs f Dup a rest all w wait l = inner fs f Dup a rest 2 (a.place + 1) w wait refl l refl refl
obeys fs f Nop a rest all w wait l = inner fs f Nop a rest 0 (a.place + 1) w wait refl l refl refl
obeys fs f (Compute o) a rest all w wait l = inner fs f (Compute o) a rest 1 (a.place + 1) w wait refl l (pushes_alone (computed o (under a.operands 1) (under a.operands 0))) refl
obeys fs f Neg a rest all w wait l = inner fs f Neg a rest 1 (a.place + 1) w wait refl l refl refl
obeys fs f Not a rest all w wait l = inner fs f Not a rest 1 (a.place + 1) w wait refl l refl refl
obeys fs f Print a rest all w wait l = inner fs f Print a rest 0 (a.place + 1) w wait refl l refl refl
obeys fs f Trap a rest all w wait l = stays_trap fs a rest
  where
    stays_trap : (fs : List LinkedFn) (a : Act) (rest : List Act) → Leads fs (staying Trap a rest)
    stays_trap fs a rest = let there : leb 0 (length a.operands) ≡ true = le-leb 0 (length a.operands) (omega arith) in rw there tt
obeys fs f (Jump to) a rest all w wait l =
    let same : length a.operands ≡ (length a.operands - 0) + 0 = omega arith in
    stays_on fs f (Jump to) a rest 0 w wait (omega arith) refl refl (subst (λ (h : ℕ). At fs f to h) same l)
obeys fs f (JumpZero to) a rest all w wait l =
    let same : length a.operands - 1 ≡ (length a.operands - 1) + 0 = omega arith in
    stays_on fs f (JumpZero to) a rest 0 w wait l.0 refl refl
    (subst (λ (h : ℕ). At fs f (goes_on (JumpZero to) a.place (under a.operands 0)) h) same (jumps_on fs f to (a.place + 5) (length a.operands - 1) (int_eq (under a.operands 0) (pos 0)) l.1 l.2))
obeys fs f (Call k) a rest all w wait l = calls fs f k a rest all w wait l
obeys fs f Return a rest all w wait l = returns_on fs f a rest wait l

steps : (fs : List LinkedFn) (acts : List Act) → AllSound fs → Work fs acts → Leads fs (step fs acts)
steps fs [] all w = absurd w
steps fs (a ∷ rest) all w =
    let f = w.0 in
    let fine = (all a.number f w.1.is).each a.place (length a.operands) w.1.here in
    rw (w.1.is, fine.1.at) (obeys fs f fine.0 a rest all w.1 w.2 fine.1.fine)

-- ---- a run

turns : (fs : List LinkedFn) (acts : List Act) (more : List Act → Option Ran) (o : Outcome) → ((next : List Act) → Work fs next → (r : Ran) × (more next ≡ Some r)) → Leads fs o → (r : Ran) × (turn acts more o ≡ Some r)
turns fs acts more (Goes next text) later w = let r = later next w in (record { how = r.0.how; text = text ++ r.0.text }, ap (after_text text) r.1)
turns fs acts more Ends later w = (record { how = end.Ended; text = [] }, refl)
turns fs acts more (Traps kind) later w = (record { how = trap_at kind acts; text = [] }, refl)
turns fs acts more Stuck later w = absurd w

works : (fs : List LinkedFn) (n : ℕ) (acts : List Act) → AllSound fs → Work fs acts → (r : Ran) × (runs fs n acts ≡ Some r)
works fs zero acts all w = (record { how = end.OutOfSteps; text = [] }, refl)
works fs (suc n) acts all w = turns fs acts (runs fs n) (step fs acts) (λ next v. works fs n next all v) (steps fs acts all w)

-- a run from the entry is defined
pub runs_defined : (fs : List LinkedFn) (n entry : ℕ) (f : LinkedFn) → AllSound fs → slice_get fs entry ≡ Some f → (r : Ran) × (runs_from fs n entry (slice_get fs entry) ≡ Some r)
runs_defined fs n entry f all is =
    elim (cases_Bool (ltb 1048576 (greatest_of fs f))) [
      | inl deep ↦ (record { how = end.Trapped kinds.Depth entry 0; text = [] }, rw (is, deep) refl)
      | inr fits ↦
          let ran = works fs n (begun_at entry f ∷ []) all (f, record { is = is; slots = length-replicate f.slots (pos 0); here = (all entry f is).start }, tt) in
          (ran.0, rw (is, fits) ran.1)
    ]
