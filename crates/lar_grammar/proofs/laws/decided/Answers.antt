use Rattle.lar_grammar.proofs.Exact.{decided}
use Rattle.lar_grammar.proofs.laws.decided.Goals as goal

pub returns : goal.returns
returns c = decided
