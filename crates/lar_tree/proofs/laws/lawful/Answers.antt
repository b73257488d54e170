use Rattle.lar_tree.proofs.LawfulTrees.{lawful}
use Rattle.lar_tree.proofs.laws.lawful.Goals as goal

pub returns : goal.returns
returns c = lawful
