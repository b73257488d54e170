-- Roots as instances of the code.
use Rattle.std.specs.Prelude.{ℕ}
use Rattle.mono_items.specs.declared.items.Instance.{Instance}

-- a function, with the number of the empty list
abbrev pub root_instance : ℕ → ℕ → Instance
root_instance none k = record { function = k; arguments = none }
