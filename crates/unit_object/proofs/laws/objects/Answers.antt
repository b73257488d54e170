use Rattle.unit_object.proofs.Kept.{object_of-keeps, object_of-spells}
use Rattle.unit_object.proofs.Shown.{object_of-shown}
use Rattle.unit_object.proofs.laws.objects.Goals as goal

pub returns-clause-keeps : goal.returns-clause-keeps
returns-clause-keeps c = object_of-keeps

pub returns-clause-spelled : goal.returns-clause-spelled
returns-clause-spelled c = object_of-spells

pub returns-clause-shown : goal.returns-clause-shown
returns-clause-shown c = object_of-shown
