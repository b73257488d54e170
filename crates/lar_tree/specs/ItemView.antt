-- The plain item that an item of the code stands for.
use Rattle.std.specs.Prelude.{List, [], ◌∷◌, map, option_map}
use Rattle.lar_tree.specs.declared.item.Field.{Field}
use Rattle.lar_tree.specs.declared.item.Fn.{Fn}
use Rattle.lar_tree.specs.declared.item.Output.{Output}
use Rattle.lar_tree.specs.declared.item.Struct.{Struct}
use Rattle.lar_tree.specs.declared.item.Mod.{Mod}
use Rattle.lar_tree.specs.declared.item.Item.{Item}
use Rattle.lar_tree.specs.declared.item.Item.TheOpen.{Item-F, Mod-F}
use Rattle.lar_tree.specs.declared.item.Item.TheFolds.{fold-Item, fold-Mod}
use Rattle.lar_tree.specs.declared.item.Tree.{Tree}
use Rattle.lar_tree.specs.Commas.{commas_map}
use Rattle.lar_tree.specs.TypeView.{type_view}
use Rattle.lar_tree.specs.StmtView.{block_view}
use Rattle.lar_tree.specs.Items.{PlainField, PlainStruct, PlainOutput, PlainFn, PlainItem, module_item, struct_item, const_item, fn_item, PlainItems, no_items, items}

abbrev pub field_view : Field → PlainField
field_view f = (f.name, f.colon, type_view f.ty)

abbrev pub struct_view : Struct → PlainStruct
struct_view s = record { keyword = s.keyword; name = s.name; generics = s.generics; from = s.open; fields = option_map (commas_map field_view) s.fields; to = s.close }

abbrev pub output_view : Output → PlainOutput
output_view o = (o.arrow, type_view o.ty)

abbrev pub fn_view : Fn → PlainFn
fn_view f = record { attributes = f.attributes; keyword = f.keyword; name = f.name; generics = f.generics; from = f.open; params = option_map (commas_map field_view) f.params; to = f.close; output = option_map output_view f.output; body = block_view f.body }

abbrev pub items_of : List PlainItem → PlainItems
items_of [] = no_items
items_of (i ∷ is) = items i (items_of is)

abbrev pub item_step : Item-F PlainItem PlainItem → PlainItem
item_step (Item-F.Mod m) = m
item_step (Item-F.Struct s) = struct_item (struct_view s)
item_step (Item-F.Const c) = const_item c
item_step (Item-F.Fn f) = fn_item (fn_view f)

abbrev pub module_step : Mod-F PlainItem PlainItem → PlainItem
module_step m = module_item m.keyword m.name m.open (items_of m.items) m.close

abbrev pub item_view : Item → PlainItem
item_view = fold-Item PlainItem PlainItem item_step module_step

abbrev pub module_view : Mod → PlainItem
module_view = fold-Mod PlainItem PlainItem item_step module_step

abbrev pub items_view : List Item → PlainItems
items_view is = items_of (map item_view is)

-- the items of a file
abbrev pub tree_view : Tree → PlainItems
tree_view t = items_view t.items
