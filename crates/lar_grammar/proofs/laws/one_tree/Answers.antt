use Rattle.lar_grammar.proofs.OneItem.{one_tree}
use Rattle.lar_grammar.proofs.laws.one_tree.Goals as goal

pub returns : goal.returns
returns c = one_tree
