use Rattle.std.proofs.Common.{◌≡◌, map, take}
use Rattle.lar_rules.specs.Checked.{typed_const}
use Rattle.lar_names.specs.Items.{const_item}
use Rattle.lar_names.specs.NamesView.{scope_lists}
use Rattle.lar_assembled.proofs.consts.typed_consts.Given as goal

abbrev pub invariant-loop-item : goal.invariant-loop-item
invariant-loop-item l = l.out.items ≡ map (λ i. typed_const (const_item (scope_lists l.names) i).0 (const_item (scope_lists l.names) i).1) (take l.item-index l.item-items)
