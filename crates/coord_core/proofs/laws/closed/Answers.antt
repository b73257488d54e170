use Rattle.coord_core.proofs.Bar.{closed}
use Rattle.coord_core.proofs.laws.closed.Goals as goal

pub returns : goal.returns
returns c = closed
