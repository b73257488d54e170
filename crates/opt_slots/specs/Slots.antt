-- Sets of slots, as tests of their numbers.
use Rattle.std.specs.Prelude.{ℕ, zero, suc, ◌+◌, ◌==◌, List, Bool, false, ◌&&◌, ◌||◌, slice_index_or}
use lib.Dec.{leb, ltb}
use Rattle.opt_slots.specs.declared.set.SlotSet.{SlotSet}

-- no slot
unfoldable pub no_slot : ℕ → Bool
no_slot k = false

-- this slot alone
unfoldable pub only : ℕ → ℕ → Bool
only s k = k == s

-- from this slot on, below that one
unfoldable pub between : ℕ → ℕ → ℕ → Bool
between s n k = leb s k && ltb k n

-- so many slots from this one on
abbrev pub span : ℕ → ℕ → ℕ → Bool
span s w = between s (s + w)

-- the slots of both
unfoldable pub also : (ℕ → Bool) → (ℕ → Bool) → ℕ → Bool
also a b k = a k || b k

-- the slots that a list of tests has
unfoldable pub marked_in : List Bool → ℕ → Bool
marked_in xs k = slice_index_or xs k false

-- the slots of a set of the code
abbrev pub slots_of : SlotSet → ℕ → Bool
slots_of x = marked_in x.marked

-- whether a set has one of so many slots from this one on
abbrev pub meets : (ℕ → Bool) → ℕ → ℕ → Bool
meets a s zero = false
meets a s (suc w) = a s || meets a (suc s) w
