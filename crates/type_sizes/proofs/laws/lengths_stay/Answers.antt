use Rattle.type_sizes.proofs.TextLengths.{lengths_kept}
use Rattle.type_sizes.proofs.laws.lengths_stay.Goals as goal

pub returns : goal.returns
returns c = lengths_kept
