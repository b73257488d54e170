use Rattle.lar_signatures.proofs.InOrder.{depths_in_order}
use Rattle.lar_signatures.proofs.laws.depths.Goals as goal

pub returns : goal.returns
returns c = depths_in_order
