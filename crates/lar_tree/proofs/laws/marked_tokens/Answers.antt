use Rattle.lar_tree.proofs.MarkedTokens.{tokens-items}
use Rattle.lar_tree.proofs.laws.marked_tokens.Goals as goal

pub returns : goal.returns
returns c = λ p. tokens-items 64 p
