use Rattle.type_table.proofs.Replacing.{closed_same}
use Rattle.type_table.proofs.laws.closed_stays.Goals as goal

pub returns : goal.returns
returns c = closed_same
