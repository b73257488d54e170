-- Counts that are kept in a u64 and stop at its last value.
use Rattle.std.specs.Prelude.{ℕ, ◌+◌, ◌-◌, ◌^◌, ◌≤◌, min}

-- the last value of a u64
abbrev pub last_count : ℕ
last_count = 2 ^ 64 - 1

-- a count that was raised by so much
abbrev pub raised : ℕ → ℕ → ℕ
raised count more = min (count + more) last_count

-- The count rose. One that stands at its last value counts as risen.
abbrev pub Rose : ℕ → ℕ → Type 0
Rose before now = raised before 1 ≤ now
