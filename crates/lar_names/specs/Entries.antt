-- What the table of a scope has at a name.
use Rattle.std.specs.Prelude.{ℕ, Bool, false, ◌&&◌, ◌||◌, cond, List, [], ◌∷◌, Option, Some, None, option_map}
use Rattle.std.specs.Str.{bytes_eq}
use Rattle.lar_rules.specs.Declared.{Declared, same_modules, meant}
use Rattle.lar_rules.specs.Fault.{Fault}
use Rattle.lar_rules.specs.Twice.{twice}
use Rattle.lar_names.specs.declared.meaning.Meaning.{Meaning}
use Rattle.lar_names.specs.Meanings.{meaning_of}

-- whether an item of this name, hidden or not, is declared in these modules
abbrev pub is_taken : List Declared → List (List ℕ) → List ℕ → Bool
is_taken [] modules name = false
is_taken (d ∷ ds) modules name = (same_modules d.modules modules && bytes_eq d.name.text name) || is_taken ds modules name

-- what the name means there
abbrev pub meaning : List Declared → List (List ℕ) → List ℕ → Option Meaning
meaning ds modules name = option_map meaning_of (meant ds modules name)

-- nothing where no item has the name, else what the name means, if a path leads to one of its items
abbrev pub entry : List Declared → List (List ℕ) → List ℕ → Option (Option Meaning)
entry ds modules name = cond (is_taken ds modules name) (Some (meaning ds modules name)) None

-- the meaning that stays: the first to which a path leads
abbrev pub first_meaning : Option Meaning → Bool → Meaning → Option Meaning
first_meaning (Some m) hidden new = Some m
first_meaning None hidden new = cond hidden None (Some new)

-- the fault of a declaration whose name is taken
abbrev pub repeat : List Declared → Declared → List Fault
repeat ds d = cond (is_taken ds d.modules d.name.text) (twice d.file d.name ∷ []) []
