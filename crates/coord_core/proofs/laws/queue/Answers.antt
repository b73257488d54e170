use Rattle.coord_core.proofs.Ordered.{ordered, short}
use Rattle.coord_core.proofs.laws.queue.Goals as goal

pub returns-clause-order : goal.returns-clause-order
returns-clause-order c = ordered

pub returns-clause-short : goal.returns-clause-short
returns-clause-short c = short
