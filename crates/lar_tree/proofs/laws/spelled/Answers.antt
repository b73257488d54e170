use Rattle.lar_tree.proofs.MarkedTokens.{spelled}
use Rattle.lar_tree.proofs.laws.spelled.Goals as goal

pub returns : goal.returns
returns c = spelled
