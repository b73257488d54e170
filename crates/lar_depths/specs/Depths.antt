-- How many structs follow each struct, and the numbers of those that its fields mention.
use Rattle.std.specs.Prelude.{ℕ, List, map}
use Rattle.lar_tree.specs.Items.{PlainStruct}
use Rattle.lar_rules.specs.Declared.{Declared, Struct}
use Rattle.lar_rules.specs.Structs.{next_structs, followers, max_chain}
use Rattle.lar_rules.specs.Faults.{none_yet}
use Rattle.lar_sound.specs.InOrder.{structs_from}
use Rattle.lar_names.specs.Numbered.{struct_at}

-- the structs by number
abbrev pub structs : List Declared → List Struct
structs all = structs_from none_yet all

-- how many structs follow each struct in the longest chain
unfoldable pub depths : List Declared → List ℕ
depths all = map (followers all max_chain) (structs all)

abbrev pub numbers : List Struct → List ℕ
numbers xs = map (λ x. x.number) xs

-- the numbers of the structs that the fields of a struct mention
abbrev pub next_numbers : List Declared → Declared × PlainStruct → List ℕ
next_numbers all p = numbers (next_structs all (struct_at 0 p))
