use Rattle.units_linked.proofs.Needed.{linkable-image, linkable-too_large}
use Rattle.units_linked.proofs.laws.needed.Goals as goal

pub returns-clause-image : goal.returns-clause-image
returns-clause-image c = linkable-image

pub returns-clause-too_large : goal.returns-clause-too_large
returns-clause-too_large c = linkable-too_large
