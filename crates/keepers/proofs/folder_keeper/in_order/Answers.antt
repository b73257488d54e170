use Rattle.keepers.proofs.HeldInOrder.{in_order-given}
use Rattle.keepers.proofs.folder_keeper.in_order.Goals as goal

pub returns : goal.returns
returns c = in_order-given c.args.names.keys c.loop-name.list.items c.loop-name.name-iterator c.loop-name.invariant.all c.in-None.ensures.steps.0 c.loop-name.invariant.ordered
