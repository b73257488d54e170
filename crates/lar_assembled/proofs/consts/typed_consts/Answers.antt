use Rattle.std.proofs.Common.{◌∙◌}
use Rattle.lar_rules.specs.Checked.{typed_const}
use Rattle.lar_names.specs.Items.{const_item}
use Rattle.lar_names.specs.NamesView.{scope_lists}
use Rattle.lar_assembled.proofs.PartFacts.{all_items}
use Rattle.lar_assembled.proofs.consts.typed_consts.Goals as goal

pub returns : goal.returns
returns c =
    c.from_vec.ensures ∙ all_items (λ p. typed_const p.0 p.1) (const_item (scope_lists c.args.names.now)) c.consts-item-items.result.now c.loop-item.item-index c.loop-item.out.items _ c.loop-item-test.false c.loop-item.invariant c.consts-item-items.ensures.all
