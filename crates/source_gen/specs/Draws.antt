-- The numbers that are drawn from a seed.
use Rattle.std.specs.Prelude.{ℕ, ◌+◌, ◌*◌, ◌/◌, ◌%◌, ◌^◌, zero, suc}

-- the state after the next draw
abbrev pub next_state : ℕ → ℕ
next_state x = (x * 1103515245 + 12345) % 2 ^ 31

-- the state after so many draws, where it is x before them
abbrev pub state_after : ℕ → ℕ → ℕ
state_after zero x = x
state_after (suc n) x = next_state (state_after n x)

-- what draw n gives, counted from 0, where the state is x before draw 0
abbrev pub drawn : ℕ → ℕ → ℕ
drawn n x = state_after (suc n) x / 65536
