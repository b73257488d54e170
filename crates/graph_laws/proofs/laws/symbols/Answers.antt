use Rattle.graph_laws.proofs.Placing.{one_symbol}
use Rattle.graph_laws.proofs.laws.symbols.Goals as goal

pub returns : goal.returns
returns c = one_symbol
