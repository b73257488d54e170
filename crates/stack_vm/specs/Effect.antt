-- What an instruction does to the stack of the machine, on which a frame is its slots and then its operand words.
use Rattle.std.specs.Prelude.{◌≡◌, ℕ, ◌+◌, ◌-◌, List, [], ◌∷◌, ◌++◌, length, take, drop, get_or, slice_set, ℤ, pos, Bool, true, false, if◌then◌else◌, Option, Some, None, Result, Ok, Err}
use Rattle.std.specs.Ordering.{int_eq}
use Rattle.stack_vm.specs.Operation.{size, takes}
use Rattle.stack_vm.specs.Words.{truth, opposite, computed}
use Rattle.stack_vm.specs.declared.operation.Operation.{Operation}
use Rattle.stack_vm.specs.declared.operation.Operation.TheVariants.{Push8, Push64, Load, Store, Dup, Compute, Neg, Not, Jump, JumpZero, Call, Return, Print, Trap}
use Rattle.stack_vm.specs.declared.end.Kind.{Kind}
use Rattle.stack_vm.specs.declared.end.Kind.TheVariants as kinds
use Rattle.stack_vm.specs.declared.machine.State.{State}
use Rattle.stack_vm.specs.declared.machine.Next.{Next}
use Rattle.stack_vm.specs.declared.machine.Next.TheVariants as next

-- the k-th word from the top
abbrev pub under : List ℤ → ℕ → ℤ
under words k = get_or words (length words - 1 - k) (pos 0)

-- one word, or a trap
abbrev pub one : ℤ → Result (List ℤ) Kind
one x = Ok (x ∷ [])

abbrev pub alone : Result ℤ Kind → Result (List ℤ) Kind
alone (Ok x) = Ok (x ∷ [])
alone (Err kind) = Err kind

-- the words that an instruction pushes for a and, above it, b
abbrev pub pushes : Operation → List ℤ → ℤ → ℤ → Result (List ℤ) Kind
pushes (Push8 n) slots a b = one n
pushes (Push64 n) slots a b = one n
pushes (Load s) slots a b = one (get_or slots s (pos 0))
pushes Dup slots a b = Ok (b ∷ b ∷ [])
pushes (Compute o) slots a b = alone (computed o a b)
pushes Neg slots a b = one (opposite (b))
pushes Not slots a b = one (truth (int_eq (b) (pos 0)))
pushes Trap slots a b = Err kinds.Trap
pushes i slots a b = Ok []

-- where the machine goes on
abbrev pub goes_on : Operation → ℕ → ℤ → ℕ
goes_on (Jump to) place b = to
goes_on (JumpZero to) place b = if int_eq b (pos 0) then to else (place + size (JumpZero to))
goes_on i place b = place + size i

-- the words on the stack of a machine whose frame begins at base, after an instruction that pushes these
abbrev pub after : Operation → ℕ → List ℤ → List ℤ → List ℤ
after (Store s) base words pushed = slice_set (take (length words - 1) words) (base + s) (under words 0)
after i base words pushed = take (length words - takes i) words ++ pushed

-- whether an instruction stays in its function
abbrev pub is_inner : Operation → Bool
is_inner (Call k) = false
is_inner Return = false
is_inner i = true

abbrev pub is_print : Operation → Bool
is_print Print = true
is_print i = false

-- the machine is in the same frame, at this place
abbrev pub Moved : State → State → ℕ → Type 0
Moved s t place = (t.number ≡ s.number) × (t.base ≡ s.base) × (t.below ≡ s.below) × (t.place ≡ place)

-- what one step did, from these words and this state to the words now
abbrev pub Did : List ℤ → State → Operation → Next → List ℤ → Type 0
Did words s i (next.Went t) now = (pushed : List ℤ) × (pushes i (drop s.base words) (under words 1) (under words 0) ≡ Ok pushed) × (now ≡ after i s.base words pushed) × (is_inner i ≡ true) × Moved s t (goes_on i s.place (under words 0)) × (is_print i ≡ false)
Did words s i (next.Call k) now = (i ≡ Call k) × (now ≡ words)
Did words s i next.Return now = (i ≡ Return) × (now ≡ words)
Did words s i (next.Print t x) now = (i ≡ Print) × (x ≡ under words 0) × (now ≡ take (length words - 1) words) × Moved s t (s.place + 1)
Did words s i (next.Trapped kind) now = pushes i (drop s.base words) (under words 1) (under words 0) ≡ Err kind

-- the words on the stack after a step
abbrev pub height_after : State → Next → ℕ
height_after s (next.Went t) = t.top
height_after s (next.Print t x) = t.top
height_after s (next.Call k) = s.top
height_after s next.Return = s.top
height_after s (next.Trapped kind) = s.top

abbrev pub DidAt : List ℤ → State → Option Operation → Next → List ℤ → Type 0
DidAt words s (Some i) result now = Did words s i result now
DidAt words s None result now = Unit {0}
