use Rattle.fault_order.proofs.Merged.{least_merged}
use Rattle.fault_order.proofs.laws.merges.Goals as goal

pub returns : goal.returns
returns c = least_merged
