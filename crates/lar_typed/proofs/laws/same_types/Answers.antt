use Rattle.lar_typed.proofs.SameTypes.{same_means, same_self}
use Rattle.lar_typed.proofs.laws.same_types.Goals as goal

pub returns-clause-means : goal.returns-clause-means
returns-clause-means c = same_means

pub returns-clause-itself : goal.returns-clause-itself
returns-clause-itself c = same_self
