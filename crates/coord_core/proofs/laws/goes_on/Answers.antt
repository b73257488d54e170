use Rattle.coord_core.proofs.Continued.{goes_on}
use Rattle.coord_core.proofs.laws.goes_on.Goals as goal

pub returns : goal.returns
returns c = goes_on
