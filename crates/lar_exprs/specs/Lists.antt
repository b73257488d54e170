-- Lists of the tree: the names that `new` sets, and how many parts there are.
use Rattle.std.specs.Prelude.{ℕ, List, [], length, map, Option, Some, None}
use Rattle.lar_tree.specs.declared.commas.Commas.{Commas}
use Rattle.lar_tree.specs.declared.expr.Expr.{Expr}
use Rattle.lar_tree.specs.declared.expr.Init.{Init}
use Rattle.lar_tree.specs.declared.name.Name.{Name}
use Rattle.lar_tree.specs.PlainLists.{values}

-- the names that are set
abbrev pub set_names : Option (Commas Init) → List Name
set_names None = []
set_names (Some c) = map (λ i. i.name) (values c)

abbrev pub parts_count : Option (Commas Expr) → ℕ
parts_count None = 0
parts_count (Some c) = length (values c)
