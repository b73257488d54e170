use Rattle.unit_object.proofs.Faults.{object_of-fault}
use Rattle.unit_object.proofs.laws.faults.Goals as goal

pub returns : goal.returns
returns c = object_of-fault
