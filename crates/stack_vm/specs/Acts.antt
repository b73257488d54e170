-- The machine: functions at work, one step, and what a run of so many steps gives. It knows nothing of how the running machine lays out its words.
use Rattle.std.specs.Prelude.{ℕ, zero, suc, ◌+◌, ◌-◌, List, [], ◌∷◌, ◌++◌, length, take, drop, slice_get, slice_set, replicate, ℤ, pos, Bool, true, nat_le, nat_lt, ◌&&◌, ◌||◌, if◌then◌else◌, Option, Some, None, Result, Ok, Err}
use Rattle.std.specs.Fmt.{signed_decimal}
use Rattle.object_format.specs.Image.{LinkedFn, Linked}
use Rattle.stack_vm.specs.Operation.{size, takes, operation_at}
use Rattle.stack_vm.specs.Heights.{greatest_of}
use Rattle.stack_vm.specs.Effect.{under, pushes, goes_on}
use Rattle.stack_vm.specs.declared.operation.Operation.{Operation}
use Rattle.stack_vm.specs.declared.operation.Operation.TheVariants.{Load, Store, Call, Return, Print}
use Rattle.stack_vm.specs.declared.end.Kind.{Kind}
use Rattle.stack_vm.specs.declared.end.Kind.TheVariants as kinds
use Rattle.stack_vm.specs.declared.end.End.{End}
use Rattle.stack_vm.specs.declared.end.End.TheVariants as end

-- a function at work
pub record Act : Type 0 where
  pub number : ℕ
  pub place : ℕ
  pub slots : List ℤ
  pub operands : List ℤ

-- what one instruction gives: the acts after it and the text that it prints, or the end, or a trap, or nothing that the machine knows
pub data Outcome : Type 0 where
  Goes : List Act → List ℕ → Outcome
  Ends : Outcome
  Traps : Kind → Outcome
  Stuck : Outcome

abbrev pub slots_after : Operation → List ℤ → ℤ → List ℤ
slots_after (Store s) slots b = slice_set slots s b
slots_after i slots b = slots

abbrev pub has_slot : Operation → ℕ → Bool
has_slot (Load s) count = nat_lt s count
has_slot (Store s) count = nat_lt s count
has_slot i count = true

-- a number in decimal, and the end of its line
abbrev pub line_of : ℤ → List ℕ
line_of n = signed_decimal n ++ 10 ∷ []

abbrev pub prints : Operation → ℤ → List ℕ
prints Print b = line_of b
prints i b = []

abbrev pub pushing : Operation → Act → List Act → Result (List ℤ) Kind → Outcome
pushing i a rest (Err kind) = Traps kind
pushing i a rest (Ok pushed) =
    Goes
    (record {
      number = a.number;
      place = goes_on i a.place (under a.operands 0);
      slots = slots_after i a.slots (under a.operands 0);
      operands = take (length a.operands - takes i) a.operands ++ pushed;
    } ∷ rest)
    (prints i (under a.operands 0))

-- an instruction that stays in its function
abbrev pub staying : Operation → Act → List Act → Outcome
staying i a rest =
    if nat_le (takes i) (length a.operands) && has_slot i (length a.slots)
    then pushing i a rest (pushes i a.slots (under a.operands 1) (under a.operands 0))
    else Stuck

-- the operand words of all
abbrev pub words_of : List Act → ℕ
words_of [] = 0
words_of (a ∷ rest) = length a.operands + words_of rest

-- a call; its arguments become the callee's first slots, and the other slots are 0
abbrev pub calling : List LinkedFn → ℕ → Option LinkedFn → Act → List Act → Outcome
calling fs k None a rest = Stuck
calling fs k (Some g) a rest =
    if nat_lt (length a.operands) g.params then Stuck
    else (if nat_lt 9999 (length rest + 1) || nat_lt 1_048_576 (((length a.operands - g.params) + words_of rest) + greatest_of fs g) then Traps kinds.Depth
    else Goes
    (record { number = k; place = 0; slots = drop (length a.operands - g.params) a.operands ++ replicate (g.slots - g.params) (pos 0); operands = [] }
    ∷ record { number = a.number; place = a.place + size (Call k); slots = a.slots; operands = take (length a.operands - g.params) a.operands }
    ∷ rest)
    [])

abbrev pub returning : Act → List Act → Outcome
returning a [] = Ends
returning a (b ∷ bs) = Goes (record { number = b.number; place = b.place; slots = b.slots; operands = b.operands ++ a.operands } ∷ bs) []

abbrev pub obey : List LinkedFn → Option Operation → Act → List Act → Outcome
obey fs None a rest = Stuck
obey fs (Some (Call k)) a rest = calling fs k (slice_get fs k) a rest
obey fs (Some Return) a rest = returning a rest
obey fs (Some i) a rest = staying i a rest

abbrev pub code_of : Option LinkedFn → List ℕ
code_of None = []
code_of (Some f) = f.code

abbrev pub step : List LinkedFn → List Act → Outcome
step fs [] = Stuck
step fs (a ∷ rest) = obey fs (operation_at (code_of (slice_get fs a.number)) a.place) a rest

-- how a run ended, and the text that it printed
pub record Ran : Type 0 where
  pub how : End
  pub text : List ℕ

-- the same after a text
abbrev pub after_text : List ℕ → Option Ran → Option Ran
after_text text None = None
after_text text (Some r) = Some (record { how = r.how; text = text ++ r.text })

-- where the machine stands, as a trap names it
abbrev pub trap_at : Kind → List Act → End
trap_at kind [] = end.Trapped kind 0 0
trap_at kind (a ∷ rest) = end.Trapped kind a.number a.place

-- how a run ends from an outcome, or none where the machine is stuck
abbrev pub turn : List Act → (List Act → Option Ran) → Outcome → Option Ran
turn acts more (Goes next text) = after_text text (more next)
turn acts more Ends = Some (record { how = end.Ended; text = [] })
turn acts more (Traps kind) = Some (record { how = trap_at kind acts; text = [] })
turn acts more Stuck = None

-- what at most so many steps give
abbrev pub runs : List LinkedFn → ℕ → List Act → Option Ran
runs fs zero acts = Some (record { how = end.OutOfSteps; text = [] })
runs fs (suc n) acts = turn acts (runs fs n) (step fs acts)

-- the entry, before its first step
abbrev pub begun_at : ℕ → LinkedFn → Act
begun_at entry f = record { number = entry; place = 0; slots = replicate f.slots (pos 0); operands = [] }

abbrev pub runs_from : List LinkedFn → ℕ → ℕ → Option LinkedFn → Option Ran
runs_from fs steps entry None = None
runs_from fs steps entry (Some f) =
    if nat_lt 1_048_576 (greatest_of fs f) then Some (record { how = end.Trapped kinds.Depth entry 0; text = [] })
    else runs fs steps (begun_at entry f ∷ [])

-- what at most so many steps of an image give: how they end, and the text. None where the machine is stuck
unfoldable pub runs_of : Linked → ℕ → Option Ran
runs_of i steps = runs_from i.functions steps i.entry (slice_get i.functions i.entry)
