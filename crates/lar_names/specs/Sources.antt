-- The sources that trees are.
use Rattle.std.specs.Prelude.{ℕ, ◌-◌, List, length, take, map}
use Rattle.lar_tree.specs.declared.item.Tree.{Tree}
use Rattle.lar_tree.specs.ItemView.{tree_view}
use Rattle.lar_rules.specs.Declared.{Source}

-- the name of a file without its last six bytes, which are `.larch`
abbrev pub module_name : List ℕ → List ℕ
module_name file = take (length file - 6) file

abbrev pub source_of : Tree → Source
source_of t = record { module_name = module_name t.file; items = tree_view t }

abbrev pub sources_of : List Tree → List Source
sources_of trees = map source_of trees
