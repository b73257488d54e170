use Rattle.std.proofs.Common.{◌≡◌, map, take}
use Rattle.lar_names.specs.Items.{struct_item}
use Rattle.lar_names.specs.NamesView.{names_view, scope_lists}
use Rattle.struct_chains.specs.Chains.{lists}
use Rattle.lar_depths.specs.Depths.{next_numbers}
use Rattle.lar_depths.proofs.graph.graph.Given as goal

abbrev pub invariant-loop-item : goal.invariant-loop-item
invariant-loop-item l = lists l.out.items ≡ map (λ i. next_numbers (names_view l.names) (struct_item (scope_lists l.names) i)) (take l.item-index l.item-items)
