use Rattle.std.specs.Borrow.{Bor}
use Rattle.lar_tree.specs.declared.name.Name.{Name}
use Rattle.lar_tree.specs.declared.item.Field.{Field}
use Rattle.lar_written.proofs.Collected.{collected_end}
use Rattle.lar_written.proofs.members.list_names.Goals as goal

pub returns : goal.returns
returns c = collected_end (λ (n : Bor Name). n.now) (λ (f : Field). f.name) c.args.list.now.first c.as_slice-more-items.result.now c.args.list.now.more c.loop-more.more-index c.loop-more.out.items c.loop-more.invariant c.as_slice-more-items.ensures c.loop-more-test.false
