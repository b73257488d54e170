use Rattle.keepers.proofs.HeldInOrder.{in_order-none}
use Rattle.keepers.proofs.folder_keeper.list.Goals as goal

pub returns-in-NotFound : goal.returns-in-NotFound
returns-in-NotFound g c = in_order-none c.new.result.items c.new.ensures.items
