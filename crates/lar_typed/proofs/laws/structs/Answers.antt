use Rattle.lar_typed.proofs.Falling.{falling, fits_below}
use Rattle.lar_typed.proofs.laws.structs.Goals as goal

pub returns-clause-falling : goal.returns-clause-falling
returns-clause-falling c = falling

pub returns-clause-below : goal.returns-clause-below
returns-clause-below c = fits_below
