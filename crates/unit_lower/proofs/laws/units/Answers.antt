use Rattle.unit_lower.proofs.Units.{lowered_unit}
use Rattle.unit_lower.proofs.laws.units.Goals as goal

pub returns : goal.returns
returns c = lowered_unit
