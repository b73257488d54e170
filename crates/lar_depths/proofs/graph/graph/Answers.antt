use Rattle.lar_names.specs.Items.{struct_item}
use Rattle.lar_names.specs.NamesView.{names_view, scope_lists}
use Rattle.lar_depths.specs.Depths.{next_numbers}
use Rattle.lar_depths.proofs.ChainFacts.{all_rows}
use Rattle.lar_depths.proofs.graph.graph.Goals as goal

pub returns : goal.returns
returns c =
    all_rows (next_numbers (names_view c.args.names.now)) (struct_item (scope_lists c.args.names.now)) c.structs-item-items.result.now c.loop-item.item-index _ _ c.loop-item-test.false c.loop-item.invariant c.structs-item-items.ensures.all
