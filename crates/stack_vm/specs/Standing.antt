-- How the running machine stands: its words, its state and the frames that wait.
use Rattle.std.specs.Prelude.{◌≡◌, ℕ, ◌+◌, ◌-◌, ◌*◌, ◌<◌, ◌≤◌, List, [], ◌∷◌, length, slice_get, reverse, take, drop, replicate, ◌++◌, ◌⊎◌, ℤ, pos, None, Option, Some, ◌^◌}
use Rattle.object_format.specs.Image.{LinkedFn, IsLinkedFn}
use Rattle.stack_vm.specs.Heights.{greatest_of}
use Rattle.stack_vm.specs.Sound.{At, Leaves, IsSound, IsFine}
use Rattle.stack_vm.specs.declared.operation.Operation.{Operation}
use Rattle.stack_vm.specs.declared.machine.State.{State}
use Rattle.stack_vm.specs.declared.machine.Frame.{Frame}
use Rattle.stack_vm.specs.declared.machine.Next.{Next}
use Rattle.stack_vm.specs.declared.machine.Next.TheVariants.{Went, Call, Return, Print, Trapped}

-- a frame of function f stands on so many words
pub record Stands (fs : List LinkedFn) (f : LinkedFn) (s : State) (words : ℕ) : Type 0 where
  pub sound : IsSound fs f
  pub own : IsLinkedFn f
  pub fits : words < 2 ^ 32
  pub here : At fs f s.place (s.top - (s.base + f.slots))
  pub above : s.base + f.slots ≤ s.top
  pub room : s.base + f.slots + greatest_of fs f ≤ words

-- the height here
abbrev pub height : LinkedFn → State → ℕ
height f s = s.top - (s.base + f.slots)

-- the call of function k leaves its result
pub record CanCall (fs : List LinkedFn) (f : LinkedFn) (s : State) (k : ℕ) : Type 0 where
  pub there : k < length fs
  pub leaves : (g : LinkedFn) → slice_get fs k ≡ Some g → Leaves fs f (s.place + 5) (height f s) g.params g.«result»

abbrev pub StandsNext : List LinkedFn → LinkedFn → State → ℕ → Next → Type 0
StandsNext fs f old words (Went s) = Stands fs f s words × (s.base ≡ old.base) × (s.number ≡ old.number) × (s.below ≡ old.below)
StandsNext fs f old words (Call k) = CanCall fs f old k
StandsNext fs f old words Return = height f old ≡ f.«result»
StandsNext fs f old words (Print s x) = Stands fs f s words × (s.base ≡ old.base) × (s.number ≡ old.number) × (s.below ≡ old.below)
StandsNext fs f old words (Trapped kind) = Unit {0}

-- the instruction here is fine at its height, which fits into the words
pub record IsNext (fs : List LinkedFn) (f : LinkedFn) (s : State) (words : ℕ) (i : Operation) : Type 0 where
  pub fine : IsFine fs f s.place (height f s) i
  pub below : s.top ≤ words
  pub short : s.place < 2 ^ 25
  -- wherever the machine goes from here, there is room for what is there
  pub room : (place height : ℕ) → At fs f place height → s.base + f.slots + height ≤ words

-- the functions that wait, the last one first, below a frame with this base that leaves so many words
abbrev pub Waits : List LinkedFn → ℕ → List Frame → ℕ → ℕ → Type 0
Waits fs words [] base left = Unit {0}
Waits fs words (g ∷ gs) base left =
    (f : LinkedFn)
    × (slice_get fs g.number ≡ Some f)
    × Stands fs f (record { number = g.number; place = g.place; base = g.base; top = base + left; below = g.below }) words
    × (g.base ≤ g.below + 255 * length gs)
    × (g.below ≤ 1_048_576)
    × Waits fs words gs g.base f.«result»
    × (g.base + f.slots ≤ base)

-- the machine stands in function f, above the frames
pub record Runs (fs : List LinkedFn) (f : LinkedFn) (s : State) (words : ℕ) (frames : List Frame) (capacity : ℕ) : Type 0 where
  pub is : slice_get fs s.number ≡ Some f
  pub stands : Stands fs f s words
  pub long : words ≡ 3_598_576
  pub base : s.base ≤ s.below + 255 * length frames
  pub below : s.below ≤ 1_048_576
  pub depth : length frames < 10_000
  pub room : 10_000 ≤ capacity
  pub waits : Waits fs words (reverse frames) s.base f.«result»

pub record RunsOn (fs : List LinkedFn) (s : State) (words : ℕ) (frames : List Frame) (capacity : ℕ) : Type 0 where
  pub there : s.number < length fs
  pub runs : (f : LinkedFn) → slice_get fs s.number ≡ Some f → Runs fs f s words frames capacity

-- the state in which a callee begins
abbrev pub begun : LinkedFn → LinkedFn → State → ℕ → State
begun f g s k = record {
  number = k;
  place = 0;
  base = s.top - g.params;
  top = (s.top - g.params) + g.slots;
  below = s.below + ((s.top - g.params) - (s.base + f.slots));
}

abbrev pub waiting : State → Frame
waiting s = record { number = s.number; place = s.place + 5; base = s.base; below = s.below }

-- the state after a return
abbrev pub resumed : LinkedFn → State → Frame → State
resumed f s g = record { number = g.number; place = g.place; base = g.base; top = s.base + f.«result»; below = g.below }

-- what a call did, from the words V to the words now
pub record Called (fs : List LinkedFn) (g f : LinkedFn) (k : ℕ) (s t : State) (V now : List ℤ) (old new : List Frame) : Type 0 where
  pub state : t ≡ begun f g s k
  pub words : now ≡ V ++ replicate (g.slots - g.params) (pos 0)
  pub frames : new ≡ old ++ waiting s ∷ []
  pub shallow : length old + 1 < 10_000
  pub few : t.below + greatest_of fs g ≤ 1_048_576

abbrev pub TooDeep : List LinkedFn → LinkedFn → LinkedFn → State → ℕ → Type 0
TooDeep fs g f s count = (10_000 ≤ count + 1) ⊎ (1_048_576 < (s.below + ((s.top - g.params) - (s.base + f.slots))) + greatest_of fs g)

abbrev pub CallGives : List LinkedFn → LinkedFn → LinkedFn → ℕ → State → List ℤ → List ℤ → List Frame → List Frame → Option State → Type 0
CallGives fs g f k s V words old new None = TooDeep fs g f s (length old)
CallGives fs g f k s V words old new (Some t) = Called fs g f k s t V (take t.top words) old new

abbrev pub LeaveGives : LinkedFn → State → List ℤ → List ℤ → List Frame → List Frame → Option State → Type 0
LeaveGives f s V words old new None = old ≡ []
LeaveGives f s V words old new (Some t) = (b : Frame) × (old ≡ new ++ b ∷ []) × (t ≡ resumed f s b) × (take t.top words ≡ take s.base V ++ drop (length V - f.«result») V)
