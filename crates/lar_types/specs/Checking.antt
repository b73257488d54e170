-- What a check answers.
use Rattle.std.specs.Prelude.{ℕ, zero, suc, List, [], ◌∷◌, Option, Some, None, Result, Ok, Err}
use Rattle.lar_source.specs.Diagnostic.{Diagnostic}
use Rattle.lar_typed.specs.Trees.{PlainTree}
use Rattle.lar_rules.specs.Declared.{Source, declared}
use Rattle.lar_rules.specs.Fault.{Fault}
use Rattle.lar_rules.specs.Faults.{first_fault}
use Rattle.lar_sound.specs.InOrder.{known_tree}

-- the name of the file with this number
abbrev pub name_of : List (List ℕ) → ℕ → List ℕ
name_of [] number = []
name_of (n ∷ ns) zero = n
name_of (n ∷ ns) (suc number) = name_of ns number

-- the diagnostic of a fault, where the files have these names
abbrev pub diagnostic_of : List (List ℕ) → Fault → Diagnostic
diagnostic_of names f = record { code = f.code; file = name_of names f.file; line = f.line; col = f.col; args = f.args }

abbrev pub tree_unless : List (List ℕ) → List Source → Option Fault → Result PlainTree Diagnostic
tree_unless names sources None = Ok (known_tree (declared sources))
tree_unless names sources (Some f) = Err (diagnostic_of names f)

-- the program with its types, unless there is a fault
abbrev pub checked : List (List ℕ) → List Source → Result PlainTree Diagnostic
checked names sources = tree_unless names sources (first_fault sources)
