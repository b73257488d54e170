-- The first fault of an image, in the order of its functions, then by offset, then by the order of the rules.
use Rattle.std.specs.Prelude.{◌≡◌, ℕ, ◌+◌, ◌≤◌, List, [], ◌∷◌, length, eqb, nat_lt, nat_le, not, ◌&&◌, ◌||◌, if◌then◌else◌, Bool, true, false, Option, Some, None, unwrap_or, is_none, slice_get, Result, Ok, Err}
use Rattle.object_format.specs.Image.{LinkedFn, Linked}
use Rattle.object_format.specs.Reading.{or_later, unless}
use Rattle.object_format.specs.Version.{slots_offset, code_offset, entry_place, functions_place}
use Rattle.object_format.specs.declared.version.Version.{Version}
use Rattle.object_format.specs.declared.fault.BadFile.{BadFile}
use Rattle.object_format.specs.declared.fault.What.{What}
use Rattle.object_format.specs.declared.fault.What.TheVariants as word
use Rattle.stack_vm.specs.Operation.{operations}
use Rattle.stack_vm.specs.Heights.{taken, left_by, jumps_to, first_at, heights_of, greatest_of}
use Rattle.stack_vm.specs.declared.operation.Operation.{Operation}
use Rattle.stack_vm.specs.declared.operation.Placed.{Placed}
use Rattle.stack_vm.specs.declared.operation.Operation.TheVariants.{Load, Store, Jump, Return, Trap}

-- whether a target is no instruction of the function with these heights
abbrev pub misses : List (ℕ × ℕ) → Option ℕ → Bool
misses hs None = false
misses hs (Some to) = is_none (first_at hs to)

-- whether a slot is not one of the function's
abbrev pub lacks_slot : Operation → ℕ → Bool
lacks_slot (Load s) slots = nat_le slots s
lacks_slot (Store s) slots = nat_le slots s
lacks_slot i slots = false

abbrev pub is_return : Operation → Bool
is_return Return = true
is_return i = false

-- whether code may end with it
abbrev pub may_end : Operation → Bool
may_end (Jump to) = true
may_end Return = true
may_end Trap = true
may_end i = false

-- whether a jump with this target leaves another height than the offset's own
abbrev pub brings_other : Option ℕ → ℕ → Option ℕ → ℕ → Bool
brings_other None left own offset = false
brings_other (Some to) left None offset = false
brings_other (Some to) left (Some height) offset = eqb to offset && not (eqb left height)

-- the height at an offset
abbrev pub height_at : List (ℕ × ℕ) → ℕ → ℕ
height_at hs offset = unwrap_or (first_at hs offset) 0

-- whether one of these instructions brings another height to an offset
abbrev pub is_crossed : List LinkedFn → List (ℕ × ℕ) → ℕ → List Placed → Bool
is_crossed fs hs offset [] = false
is_crossed fs hs offset (p ∷ ps) = brings_other (jumps_to p.operation) (left_by fs p.operation (height_at hs p.offset)) (first_at hs offset) offset || is_crossed fs hs offset ps

-- the first word of the table that an instruction breaks
abbrev pub word_at : List LinkedFn → List (ℕ × ℕ) → LinkedFn → Operation → ℕ → Bool → Bool → Option What
word_at fs hs f i height crossed is_last =
    if misses hs (jumps_to i) then Some word.Jump
    else (if lacks_slot i f.slots then Some word.Slot
    else (if nat_lt height (taken fs i) || (crossed || (is_return i && not (eqb height f.«result»))) then Some word.Height
    else (if is_last && not (may_end i) then Some word.End else None)))

abbrev pub fault_if : ℕ → Option What → Option BadFile
fault_if at (Some what) = Some (record { at = at; what = what })
fault_if at None = None

abbrev pub is_empty : List Placed → Bool
is_empty [] = true
is_empty (p ∷ ps) = false

-- the first fault of these instructions, where `all` are those of the function and its code begins at this place of the file
abbrev pub code_faults : List LinkedFn → List (ℕ × ℕ) → LinkedFn → List Placed → ℕ → List Placed → Option BadFile
code_faults fs hs f all at [] = None
code_faults fs hs f all at (p ∷ ps) =
    or_later (fault_if (at + p.offset) (word_at fs hs f p.operation (height_at hs p.offset) (is_crossed fs hs p.offset all) (is_empty ps)))
    (code_faults fs hs f all at ps)

-- the first fault of a function that begins at this place of the file
unfoldable pub function_fault : List LinkedFn → Version → ℕ → LinkedFn → Option BadFile
function_fault fs version at f =
    if nat_lt f.slots f.params then Some (record { at = at + slots_offset; what = word.Slots })
    else (if eqb (length f.code) 0 then Some (record { at = at + code_offset version; what = word.End })
    else code_faults fs (heights_of fs f.code) f (operations f.code) (at + code_offset version) (operations f.code))

-- the first fault of functions, the first of which begins at this place of the file
abbrev pub functions_fault : List LinkedFn → Version → ℕ → List LinkedFn → Option BadFile
functions_fault fs version at [] = None
functions_fault fs version at (f ∷ rest) = or_later (function_fault fs version at f) (functions_fault fs version (at + code_offset version + length f.code) rest)

abbrev pub entry_fault : Option LinkedFn → Option BadFile
entry_fault None = None
entry_fault (Some f) = if eqb f.params 0 && eqb f.«result» 0 then None else Some (record { at = entry_place; what = word.Entry })

-- the first fault of an image, by its place in the spelling of this version
abbrev pub image_fault : Version → Linked → Option BadFile
image_fault version i = or_later (entry_fault (slice_get i.functions i.entry)) (functions_fault i.functions version functions_place i.functions)

-- the offsets of these pairs are below a length
abbrev pub IsWithin : List (ℕ × ℕ) → ℕ → Type 0
IsWithin hs long = (t : ℕ) → long ≤ t → first_at hs t ≡ None

-- the greatest height of a function that begins at this place of the file, or its first fault
abbrev pub checked : List LinkedFn → Version → ℕ → LinkedFn → Result ℕ BadFile
checked fs version at f = unless (function_fault fs version at f) (greatest_of fs f)

-- the greatest height of a function whose code begins at this place of the file, or the first fault of its code
abbrev pub judged : List LinkedFn → ℕ → LinkedFn → Result ℕ BadFile
judged fs at f = unless (code_faults fs (heights_of fs f.code) f (operations f.code) at (operations f.code)) (greatest_of fs f)

-- What a judgement of code that begins at this place says.
abbrev pub Judges : List LinkedFn → ℕ → LinkedFn → Result ℕ BadFile → Type 0
Judges fs at f (Ok most) = (code_faults fs (heights_of fs f.code) f (operations f.code) at (operations f.code) ≡ None) × (most ≡ greatest_of fs f)
Judges fs at f (Err e) = code_faults fs (heights_of fs f.code) f (operations f.code) at (operations f.code) ≡ Some e
