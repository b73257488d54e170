-- Names of one declaration.
use Rattle.std.specs.Prelude.{ℕ, List, [], ◌∷◌, map, if◌then◌else◌}
use Rattle.std.specs.Borrow.{Bor}
use Rattle.lar_tree.specs.declared.name.Name.{Name}
use Rattle.lar_rules.specs.Fault.{Fault}
use Rattle.lar_rules.specs.Twice.{is_among, twice}

abbrev pub names : List (Bor Name) → List Name
names ns = map (λ n. n.now) ns

-- what is told of one name behind earlier ones
abbrev pub twice_if : ℕ → List Name → Name → List Fault
twice_if file earlier n = if is_among earlier n.text then twice file n ∷ [] else []
