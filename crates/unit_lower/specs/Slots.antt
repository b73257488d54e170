-- Where values lie in a function's slots. Locals take slots in the order of their numbers, as many as each has words.
use Rattle.std.specs.Prelude.{ℕ, ◌+◌, take, sum, Option, Some, None}
use Rattle.unit_input.specs.Exprs.{PlainExpr, int, truth, local, field, tuple, unary, binary, call}
use Rattle.unit_input.specs.Widths.{Scope}

-- the first slot of a local
abbrev pub first_slot : Scope → ℕ → ℕ
first_slot s n = sum (take n s.locals)

-- how many slots all locals take
abbrev pub local_slots : Scope → ℕ
local_slots s = sum s.locals

abbrev pub moved : ℕ → Option ℕ → Option ℕ
moved offset None = None
moved offset (Some slot) = Some (slot + offset)

-- the first slot of a local, and of a part of one, through any number of parts; other values lie in no slots yet
abbrev pub place : Scope → PlainExpr → Option ℕ
place s (local n) = Some (first_slot s n)
place s (field e offset wide) = moved offset (place s e)
place s e = None
