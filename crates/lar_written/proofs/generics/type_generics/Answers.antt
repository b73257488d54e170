use Rattle.lar_rules.specs.Generics.{generic_name}
use Rattle.lar_written.specs.Sites.{generic_view, type_name}
use Rattle.lar_written.proofs.Collected.{collected_end}
use Rattle.lar_written.proofs.generics.type_generics.Goals as goal

pub returns : goal.returns
returns c = collected_end generic_view type_name c.args.names.now.first c.as_slice-more-items.result.now c.args.names.now.more c.loop-more.more-index c.loop-more.list.items c.loop-more.invariant c.as_slice-more-items.ensures c.loop-more-test.false
