-- What holds at each instruction of a valid image, so that a run never meets a missing word, slot or instruction.
use Rattle.std.specs.Prelude.{◌≡◌, ℕ, ◌+◌, ◌-◌, ◌<◌, ◌≤◌, List, length, slice_get, Some}
use Rattle.object_format.specs.Image.{LinkedFn}
use Rattle.stack_vm.specs.Operation.{operation_at, IsThere}
use Rattle.stack_vm.specs.Heights.{first_at, heights_of}
use Rattle.stack_vm.specs.declared.operation.Operation.{Operation}
use Rattle.stack_vm.specs.declared.operation.Operation.TheVariants.{Push8, Push64, Load, Store, Pop, Dup, Nop, Compute, Neg, Not, Jump, JumpZero, Call, Return, Print, Trap}

-- an instruction stands at this offset, and has this height
pub record At (fs : List LinkedFn) (f : LinkedFn) (place height : ℕ) : Type 0 where
  pub has : first_at (heights_of fs f.code) place ≡ Some height

-- the instruction at this offset has the height that is left where this many words are taken and pushed
pub record Leaves (fs : List LinkedFn) (f : LinkedFn) (place height takes pushes : ℕ) : Type 0 where
  pub there : takes ≤ height
  pub next : At fs f place ((height - takes) + pushes)

abbrev pub IsFine : List LinkedFn → LinkedFn → ℕ → ℕ → Operation → Type 0
IsFine fs f place height (Push8 n) = Leaves fs f (place + 2) height 0 1
IsFine fs f place height (Push64 n) = Leaves fs f (place + 9) height 0 1
IsFine fs f place height (Load s) = (s < f.slots) × Leaves fs f (place + 2) height 0 1
IsFine fs f place height (Store s) = (s < f.slots) × Leaves fs f (place + 2) height 1 0
IsFine fs f place height Pop = Leaves fs f (place + 1) height 1 0
IsFine fs f place height Dup = Leaves fs f (place + 1) height 1 2
IsFine fs f place height Nop = Leaves fs f (place + 1) height 0 0
IsFine fs f place height (Compute o) = Leaves fs f (place + 1) height 2 1
IsFine fs f place height Neg = Leaves fs f (place + 1) height 1 1
IsFine fs f place height Not = Leaves fs f (place + 1) height 1 1
IsFine fs f place height (Jump to) = At fs f to height
IsFine fs f place height (JumpZero to) = (1 ≤ height) × At fs f to (height - 1) × At fs f (place + 5) (height - 1)
IsFine fs f place height (Call k) = (k < length fs) × ((g : LinkedFn) → slice_get fs k ≡ Some g → Leaves fs f (place + 5) height g.params g.«result»)
IsFine fs f place height Return = height ≡ f.«result»
IsFine fs f place height Print = Leaves fs f (place + 1) height 1 0
IsFine fs f place height Trap = Unit {0}

-- the instruction that stands where a height does
pub record Fine (fs : List LinkedFn) (f : LinkedFn) (place height : ℕ) (i : Operation) : Type 0 where
  pub at : operation_at f.code place ≡ Some i
  pub there : IsThere f.code place i
  pub fine : IsFine fs f place height i

pub record IsSound (fs : List LinkedFn) (f : LinkedFn) : Type 0 where
  pub start : At fs f 0 0
  pub params : f.params ≤ f.slots
  pub each : (place height : ℕ) → At fs f place height → (i : Operation) × Fine fs f place height i

-- each function is sound
abbrev pub AllSound : List LinkedFn → Type 0
AllSound fs = (k : ℕ) (f : LinkedFn) → slice_get fs k ≡ Some f → IsSound fs f
