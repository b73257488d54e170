-- One pass over a function's code: its list by offset, and what is known behind it.
use Rattle.std.specs.Prelude.{◌≡◌, ℕ, ◌+◌, ◌*◌, ◌<◌, ◌≤◌, List, ◌++◌, length, drop, slice_index, slice_set, true, false, Option, Some, None, unwrap_or}
use Rattle.std.specs.List.{AllByRecursion}
use Rattle.object_format.specs.Image.{LinkedFn}
use Rattle.object_format.specs.Reading.{code_fault}
use Rattle.stack_vm.specs.Operation.{size, placed}
use Rattle.stack_vm.specs.Heights.{taken, left_by, jumps_to, handed_on, brings, first_at, as_number, Shows, reached, at_start, heights, greatest}
use Rattle.stack_vm.specs.Faults.{lacks_slot, is_return, IsWithin}
use Rattle.stack_vm.specs.declared.operation.Operation.{Operation}
use Rattle.stack_vm.specs.declared.operation.Placed.{Placed}
use Rattle.stack_vm.specs.declared.sweeping.Way.{Way}

-- what was noted stays
pub record Grows (old new : List ℕ) : Type 0 where
  pub long : length new ≡ length old
  pub kept : (t : ℕ) → t < length old → (slice_index old t ≡ 4294967295 → ⊥) → slice_index new t ≡ slice_index old t

-- the height with which the pass arrives at an offset: what was handed on, else what was brought there, else 0
pub record Arrives (handed : Option ℕ) (offset : ℕ) (old : List ℕ) (height : ℕ) (new : List ℕ) : Type 0 where
  pub some : (n : ℕ) → handed ≡ Some n → height ≡ n
  pub none : (o : Option ℕ) → handed ≡ None → slice_index old offset ≡ as_number o → ((n : ℕ) → o ≡ Some n → n < 4294967295) → height ≡ unwrap_or o 0
  pub same : (slice_index old offset ≡ 4294967295 → ⊥) → height ≡ slice_index old offset
  pub noted : new ≡ slice_set old offset height

-- an instruction finds its words and its slot, and this is its way
pub record Leads (fs : List LinkedFn) (f : LinkedFn) (i : Operation) (height : ℕ) (w : Way) : Type 0 where
  pub slot : lacks_slot i f.slots ≡ false
  pub words : taken fs i ≤ height
  pub leaves : is_return i ≡ true → height ≡ f.«result»
  pub left : w.left ≡ left_by fs i height
  pub handed : w.handed ≡ handed_on i (left_by fs i height)
  pub target : w.target ≡ jumps_to i
  pub size : w.size ≡ size i
  pub small : w.left ≤ height + 255

-- what a jump leaves agrees with what is noted at its target, which is no offset passed over
pub record Agrees (offset : ℕ) (target : Option ℕ) (left : ℕ) (old new : List ℕ) : Type 0 where
  pub grows : Grows old new
  pub shown : (pairs : List (ℕ × ℕ)) (limit : ℕ) → Shows pairs old limit → left ≤ limit → limit < 4294967295 → Shows (pairs ++ brings target left) new limit
  pub behind : (t : ℕ) → t ≤ offset → slice_index new t ≡ slice_index old t
  pub there : (to : ℕ) → target ≡ Some to → (to < length new) × (slice_index new to ≡ left)

-- an instruction behind the pass: its height is noted, it keeps the rules of its own, and what it leaves is noted at its target
pub record Settled (fs : List LinkedFn) (f : LinkedFn) (numbers : List ℕ) (p : Placed) : Type 0 where
  pub height : ℕ
  pub within : p.offset < length numbers
  pub stands : slice_index numbers p.offset ≡ height
  pub small : height < 4294967295
  pub slot : lacks_slot p.operation f.slots ≡ false
  pub words : taken fs p.operation ≤ height
  pub leaves : is_return p.operation ≡ true → height ≡ f.«result»
  pub there : (to : ℕ) → jumps_to p.operation ≡ Some to → (to < length numbers) × (slice_index numbers to ≡ left_by fs p.operation height)
  pub low : left_by fs p.operation height < 4294967295

-- what is known where the pass has come to an offset
pub record Swept (fs : List LinkedFn) (f : LinkedFn) (offset : ℕ) (handed : Option ℕ) (most : ℕ) (numbers : List ℕ) : Type 0 where
  pub done : List Placed
  pub all : done ++ placed offset 0 (drop offset f.code) ≡ placed 0 0 f.code
  pub within : offset ≤ length f.code
  pub whole : (count : Option ℕ) × (code_fault count offset (drop offset f.code) ≡ None)
  pub long : length numbers ≡ length f.code
  pub gives : handed ≡ (reached fs at_start done).handed
  pub low : (h : ℕ) → handed ≡ Some h → h ≤ 255 * offset
  pub highest : most ≡ greatest (heights fs at_start done)
  pub shown : Shows (heights fs at_start done ++ (reached fs at_start done).jumps) numbers (255 * offset)
  pub behind : IsWithin (heights fs at_start done) offset
  pub between : (t : ℕ) → t < offset → first_at (heights fs at_start done) t ≡ None → slice_index numbers t ≡ 4294967295
  pub settled : AllByRecursion (Settled fs f numbers) done
