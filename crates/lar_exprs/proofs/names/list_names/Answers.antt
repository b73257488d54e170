use Rattle.lar_exprs.proofs.Collected.{names_end}
use Rattle.lar_exprs.proofs.names.list_names.Goals as goal

pub returns : goal.returns
returns c = names_end c.args.list.now.first c.as_slice-more-items.result.now c.args.list.now.more c.loop-more.more-index c.loop-more.out.items c.loop-more.invariant c.as_slice-more-items.ensures c.loop-more-test.false
