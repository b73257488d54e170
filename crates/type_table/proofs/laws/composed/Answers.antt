use Rattle.type_table.proofs.Replacing.{composed_same}
use Rattle.type_table.proofs.laws.composed.Goals as goal

pub returns : goal.returns
returns c = composed_same
