use Rattle.lar_tree.proofs.TreeSizes.{items-size}
use Rattle.lar_tree.proofs.laws.size.Goals as goal

pub returns : goal.returns
returns c = items-size
