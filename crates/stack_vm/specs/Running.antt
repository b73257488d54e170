-- What a run leaves in its sink.
use Rattle.std.specs.Prelude.{◌≡◌, ◌+◌, ℕ, List, [], ◌∷◌, ◌++◌, take, reverse, length, drop, slice_get, ℤ, Option, Some, None, IfSome}
use Rattle.object_format.specs.Image.{LinkedFn}
use Rattle.sinks.specs.Prefixes.{TakesPrefix}
use Rattle.sinks.specs.SinkState.{SinkState, with_text, with_fault, with_want}
use Rattle.sinks.specs.declared.putting.Putting.{Putting}
use Rattle.sinks.specs.declared.putting.Putting.TheVariants as putting
use Rattle.stack_vm.specs.Acts.{Act, Ran}
use Rattle.stack_vm.specs.declared.end.End.{End}
use Rattle.stack_vm.specs.declared.end.End.TheVariants as end
use Rattle.stack_vm.specs.declared.machine.State.{State}
use Rattle.stack_vm.specs.declared.machine.Frame.{Frame}

-- The run is not stuck. The sink took a prefix of what it prints, and then this happened to it.
pub record PrefixOf (wanted : Option Ran) (then : SinkState → SinkState) (old new : SinkState) : Type 0 where
  pub ran : Ran
  pub gives : wanted ≡ Some ran
  pub takes : TakesPrefix old ran.text then new

-- The same, if the run is not stuck.
abbrev pub PrefixIf : Option Ran → (SinkState → SinkState) → SinkState → SinkState → Type 0
PrefixIf wanted then old new = IfSome wanted (λ ran. TakesPrefix old ran.text then new)

-- The run ends as it should, and the sink gains exactly its text; but where a put failed or found no memory, a prefix of it.
abbrev pub RunLeaves : Option Ran → SinkState → SinkState → End → Type 0
RunLeaves wanted old new end.WriteFault = PrefixOf wanted with_fault old new
RunLeaves wanted old new end.Memory = PrefixOf wanted with_want old new
RunLeaves wanted old new how = (text : List ℕ) × (wanted ≡ Some (record { how = how; text = text })) × (new ≡ with_text text old)

-- The same where the last part of the text is still kept back.
abbrev pub WorkLeaves : Option Ran → SinkState → SinkState → List ℕ → End → Type 0
WorkLeaves wanted old new kept end.WriteFault = PrefixIf wanted with_fault old new
WorkLeaves wanted old new kept end.Memory = PrefixIf wanted with_want old new
WorkLeaves wanted old new kept how = (put : List ℕ) × (wanted ≡ Some (record { how = how; text = put ++ kept })) × (new ≡ with_text put old)

-- The kept text goes to the sink, or it stays; a line is kept then.
abbrev pub Keeps : SinkState → SinkState → List ℕ → List ℕ → List ℕ → Putting → Type 0
Keeps old new before kept line putting.Done = (put : List ℕ) × (new ≡ with_text put old) × (put ++ kept ≡ before ++ line)
Keeps old new before kept line putting.Failed = TakesPrefix old before with_fault new
Keeps old new before kept line putting.Memory = TakesPrefix old before with_want new

-- how many slots a function has
abbrev pub slots_count : Option LinkedFn → ℕ
slots_count None = 0
slots_count (Some f) = f.slots

-- a function at work, as it lies on the stack
abbrev pub act : ℕ → State → List ℤ → Act
act count s V = record { number = s.number; place = s.place; slots = take count (drop s.base V); operands = drop (s.base + count) V }

abbrev pub frame_act : List LinkedFn → Frame → List ℤ → Act
frame_act fs g V = record {
  number = g.number;
  place = g.place;
  slots = take (slots_count (slice_get fs g.number)) (drop g.base V);
  operands = drop (g.base + slots_count (slice_get fs g.number)) V;
}

-- the functions that wait, as they lie on the stack
abbrev pub seen : List LinkedFn → List Frame → List ℤ → List Act
seen fs [] V = []
seen fs (g ∷ gs) V = frame_act fs g V ∷ seen fs gs (take g.base V)

-- the functions at work, where this one is on top, these frames wait and these are the words on the stack
abbrev pub acts : List LinkedFn → LinkedFn → State → List Frame → List ℤ → List Act
acts fs f s frames V = act f.slots s V ∷ seen fs (reverse frames) (take s.base V)

-- each count is of the operand words below
abbrev pub Counted : List LinkedFn → List Frame → List ℤ → ℕ → Type 0
Counted fs [] V below = below ≡ 0
Counted fs (g ∷ gs) V below = (below ≡ length (frame_act fs g V).operands + g.below) × Counted fs gs (take g.base V) g.below
