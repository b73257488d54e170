use Rattle.lar_grammar.proofs.Exact.{spelled}
use Rattle.lar_grammar.proofs.laws.spelled.Goals as goal

pub returns : goal.returns
returns c = spelled
