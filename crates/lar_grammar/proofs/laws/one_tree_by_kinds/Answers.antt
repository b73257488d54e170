use Rattle.lar_grammar.proofs.UnplacedItems.{one_tree_by_kinds}
use Rattle.lar_grammar.proofs.laws.one_tree_by_kinds.Goals as goal

pub returns : goal.returns
returns c = one_tree_by_kinds
