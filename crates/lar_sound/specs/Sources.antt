-- What the parser promises of sources: their names are names of the language, each list and each nesting keeps its
-- limit, and none has
-- too many tokens.
use Rattle.std.specs.Prelude.{◌≡◌, ℕ, ◌≤◌, true, List, ◌∷◌, length}
use Rattle.lar_typed.specs.Paths.{is_name, are_names}
use Rattle.lar_tree.specs.Limits.{max_levels}
use Rattle.lar_tree.specs.Lawful.{Every, LimitedItems}
use Rattle.lar_tree.specs.Items.{PlainItem, module_item, struct_item, const_item, fn_item, PlainItems, no_items, items, flat_items}
use Rattle.lar_rules.specs.Declared.{Source}

-- each module, struct, constant and function has a name of the language
abbrev mutual
  pub NamedItem : PlainItem → Type 0
  NamedItem (module_item at n from is to) = (is_name n.text ≡ true) × NamedItems is
  NamedItem (struct_item s) = is_name s.name.text ≡ true
  NamedItem (const_item c) = is_name c.name.text ≡ true
  NamedItem (fn_item f) = is_name f.name.text ≡ true

  pub NamedItems : PlainItems → Type 0
  NamedItems no_items = Unit {0}
  NamedItems (items i is) = NamedItem i × NamedItems is

pub record IsSource (s : Source) : Type 0 where
  pub named_module : is_name s.module_name ≡ true
  pub named_items : NamedItems s.items
  pub limited : LimitedItems max_levels s.items
  pub few_tokens : length (flat_items s.items) ≤ 16777216

abbrev pub AreSources : List Source → Type 0
AreSources sources = Every IsSource sources

-- the modules of an item: that of its file, and those in it
pub record IsModules (ms : List (List ℕ)) : Type 0 where
  pub first : List ℕ
  pub others : List (List ℕ)
  pub are : first ∷ others ≡ ms
  pub names : are_names (first ∷ others) ≡ true
  pub few : length others ≤ 64
