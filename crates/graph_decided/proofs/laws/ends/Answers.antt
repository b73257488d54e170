use Rattle.graph_decided.proofs.Decided.{decided}
use Rattle.graph_decided.proofs.laws.ends.Goals as goal

pub returns : goal.returns
returns c = decided
