use Rattle.coord_core.proofs.Bag.{bag, returned}
use Rattle.coord_core.proofs.laws.bag.Goals as goal

pub returns-clause-bag : goal.returns-clause-bag
returns-clause-bag c = bag

pub returns-clause-returned : goal.returns-clause-returned
returns-clause-returned c = returned
