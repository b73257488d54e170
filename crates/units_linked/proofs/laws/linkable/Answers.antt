use Rattle.units_linked.proofs.Unrefused.{linked-shown, linked-made}
use Rattle.units_linked.proofs.laws.linkable.Goals as goal

pub returns-clause-shown : goal.returns-clause-shown
returns-clause-shown c = linked-shown

pub returns-clause-made : goal.returns-clause-made
returns-clause-made c = linked-made
