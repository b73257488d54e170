-- Which tokens are a program, which begin one, and where the first fault stands.
use Rattle.std.specs.Prelude.{◌≡◌, ℕ, ◌+◌, ◌≤◌, ◌<◌, List, ◌++◌, length, take}
use Rattle.lar_tree.specs.declared.token.Token.{Token}
use Rattle.lar_tree.specs.Items.{PlainItems, GroupedItems}
use Rattle.lar_tree.specs.Marks.{Marked, unmarked, marked_program}

-- The tree is one of the grammar, these are its tokens, and none of them passes a count.
abbrev pub Spells : PlainItems → List Token → Type 0
Spells p ts = GroupedItems p × (marked_program p ≡ unmarked ts)

-- The grammar without its counts has a program that begins with these tokens, and no count is passed in them.
abbrev pub Begins : List Token → Type 0
Begins ts = (p : PlainItems) × (rest : List Marked) × GroupedItems p × (marked_program p ≡ unmarked ts ++ rest)

-- The first n tokens begin a program, and with the one behind them they begin none; or, where n is all of them, they are none.
abbrev pub IsFirstFault : List Token → ℕ → Type 0
IsFirstFault ts n = (n ≤ length ts) × Begins (take n ts) × (n < length ts → Begins (take (n + 1) ts) → ⊥) × (n ≡ length ts → (p : PlainItems) → Spells p ts → ⊥)
