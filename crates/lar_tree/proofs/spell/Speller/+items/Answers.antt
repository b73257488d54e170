use Rattle.std.proofs.Common.{refl, arith}
use Rattle.lar_tree.specs.declared.item.Item.{Item}
use Rattle.lar_tree.specs.ItemView.{item_view, items_view}
use Rattle.lar_tree.specs.Items.{flat_item, flat_items}
use Rattle.lar_tree.proofs.Onwards.{onwards}
use Rattle.lar_tree.proofs.spell.Speller.+items.Goals as goal

pub items-loop-item-preserved : goal.items-loop-item-preserved
items-loop-item-preserved t c =
    let done = c.in_ok-item.ensures in
    onwards {A = Item} (λ xs. flat_items (items_view xs)) (λ x. flat_item (item_view x)) c.args.items.now c.loop-item.item-index c.item-item.result _ _ _ (λ ys. refl) (omega arith) c.item-item.is c.loop-item.invariant done
