use Rattle.std.proofs.Common.{◌≡◌, ◌++◌, drop}
use Rattle.lar_tree.specs.ItemView.{items_view}
use Rattle.lar_tree.specs.Items.{flat_items}
use Rattle.lar_tree.specs.Spelling.{kinds}
use Rattle.lar_tree.proofs.spell.Speller.+items.Given as goal

abbrev pub invariant-items-loop-item : goal.invariant-items-loop-item
invariant-items-loop-item l = l.self.kinds.items ++ kinds (flat_items (items_view (drop l.item-index l.items))) ≡ l.initial.self.kinds.items ++ kinds (flat_items (items_view l.items))
