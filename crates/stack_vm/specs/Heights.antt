-- How many operand words lie above a function's slots before each of its instructions.
use Rattle.std.specs.Prelude.{◌≡◌, ℕ, ◌+◌, ◌-◌, ◌^◌, ◌<◌, ◌≤◌, max, slice_index, List, [], ◌∷◌, ◌++◌, length, slice_get, eqb, if◌then◌else◌, Option, Some, None, unwrap_or}
use Rattle.object_format.specs.Opcode.{row}
use Rattle.object_format.specs.Image.{LinkedFn}
use Rattle.stack_vm.specs.Operation.{opcode, operations}
use Rattle.stack_vm.specs.declared.operation.Operation.{Operation}
use Rattle.stack_vm.specs.declared.operation.Placed.{Placed}
use Rattle.stack_vm.specs.declared.operation.Operation.TheVariants.{Jump, JumpZero, Call, Return, Trap}

abbrev pub params_of : Option LinkedFn → ℕ
params_of (Some f) = f.params
params_of None = 0

abbrev pub result_of : Option LinkedFn → ℕ
result_of (Some f) = f.«result»
result_of None = 0

-- the words that an instruction takes, and those that it pushes then
abbrev pub taken : List LinkedFn → Operation → ℕ
taken fs (Call k) = params_of (slice_get fs k)
taken fs i = (row (opcode i)).takes

abbrev pub pushed : List LinkedFn → Operation → ℕ
pushed fs (Call k) = result_of (slice_get fs k)
pushed fs i = (row (opcode i)).pushes

-- the height that is left; where too few words are there, only what is pushed
abbrev pub left_by : List LinkedFn → Operation → ℕ → ℕ
left_by fs i height = (height - taken fs i) + pushed fs i

-- the offset to which an instruction may jump
abbrev pub jumps_to : Operation → Option ℕ
jumps_to (Jump to) = Some to
jumps_to (JumpZero to) = Some to
jumps_to i = None

-- the height that the next instruction has from the one before it
abbrev pub handed_on : Operation → ℕ → Option ℕ
handed_on (Jump to) left = None
handed_on Return left = None
handed_on Trap left = None
handed_on i left = Some left

-- the height that the first of these pairs with this offset has
abbrev pub first_at : List (ℕ × ℕ) → ℕ → Option ℕ
first_at [] offset = None
first_at (j ∷ js) offset = if eqb j.0 offset then Some j.1 else first_at js offset

-- what stands before an instruction: the height that the one before it leaves where it goes on, and the offsets and heights of the jumps so far
pub record Before : Type 0 where
  pub handed : Option ℕ
  pub jumps : List (ℕ × ℕ)

-- the height at an offset: what was handed on, else what the first jump to it brings, else 0
abbrev pub here : Before → ℕ → ℕ
here b offset = unwrap_or b.handed (unwrap_or (first_at b.jumps offset) 0)

abbrev pub brings : Option ℕ → ℕ → List (ℕ × ℕ)
brings None left = []
brings (Some to) left = (to, left) ∷ []

abbrev pub next : List LinkedFn → Before → Placed → Before
next fs b p = record {
  handed = handed_on p.operation (left_by fs p.operation (here b p.offset));
  jumps = b.jumps ++ brings (jumps_to p.operation) (left_by fs p.operation (here b p.offset));
}

abbrev pub reached : List LinkedFn → Before → List Placed → Before
reached fs b [] = b
reached fs b (p ∷ ps) = reached fs (next fs b p) ps

-- before the first instruction
abbrev pub at_start : Before
at_start = record { handed = Some 0; jumps = [] }

-- the offset and the height of each of these instructions
abbrev pub heights : List LinkedFn → Before → List Placed → List (ℕ × ℕ)
heights fs b [] = []
heights fs b (p ∷ ps) = (p.offset, here b p.offset) ∷ heights fs (next fs b p) ps

-- the heights of a function's code
unfoldable pub heights_of : List LinkedFn → List ℕ → List (ℕ × ℕ)
heights_of fs code = heights fs at_start (operations code)

abbrev pub greatest : List (ℕ × ℕ) → ℕ
greatest [] = 0
greatest (h ∷ hs) = max h.1 (greatest hs)

-- the greatest height of a function
abbrev pub greatest_of : List LinkedFn → LinkedFn → ℕ
greatest_of fs f = greatest (heights_of fs f.code)

-- no height, as a number
abbrev pub as_number : Option ℕ → ℕ
as_number (Some n) = n
as_number None = 2 ^ 32 - 1

-- the numbers show by offset what these pairs have, none of them over the limit
pub record Shows (pairs : List (ℕ × ℕ)) (numbers : List ℕ) (limit : ℕ) : Type 0 where
  pub each : (t : ℕ) → t < length numbers → slice_index numbers t ≡ as_number (first_at pairs t)
  pub small : (t h : ℕ) → first_at pairs t ≡ Some h → h ≤ limit
