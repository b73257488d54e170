use Rattle.fault_order.proofs.Swapped.{swapped}
use Rattle.fault_order.proofs.laws.swapped.Goals as goal

pub returns : goal.returns
returns c = swapped
