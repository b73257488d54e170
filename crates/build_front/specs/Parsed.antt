-- What is parsed keeps what the rules of names and types ask of sources.
use Rattle.std.specs.Prelude.{◌≡◌, ◌≤◌, true, List, length}
use Rattle.lar_source.specs.declared.file.File.{File}
use Rattle.lar_tree.specs.declared.item.Tree.{Tree}
use Rattle.lar_tree.specs.ItemView.{tree_view}
use Rattle.lar_tree.specs.Items.{flat_items}
use Rattle.lar_tree.specs.Lawful.{Every}
use Rattle.lar_typed.specs.Paths.{is_name}
use Rattle.lar_names.specs.Sources.{module_name, source_of}
use Rattle.lar_sound.specs.Sources.{IsSource}
use Rattle.fault_order.specs.Places.{AreOrdered}

-- the name of each file, without its last six bytes, is one of the language
abbrev pub AreNamed : List File → Type 0
AreNamed files = Every (λ (f : File). is_name (module_name f.name) ≡ true) files

abbrev pub AreShort : List File → Type 0
AreShort files = Every (λ (f : File). length f.bytes ≤ 16777216) files

-- The tree has the file's name, and its tokens are in order; it is a source as the rules ask for where that name is one.
pub record IsParsed (f : File) (t : Tree) : Type 0 where
  pub name : t.file ≡ f.name
  pub ordered : AreOrdered (flat_items (tree_view t))
  pub lawful : is_name (module_name f.name) ≡ true → IsSource (source_of t)
