use Rattle.coord_core.proofs.Order.{in_order}
use Rattle.coord_core.proofs.laws.order.Goals as goal

pub returns : goal.returns
returns c = in_order
