use Rattle.coord_core.proofs.Told.{told}
use Rattle.coord_core.proofs.Acted.{acted}
use Rattle.coord_core.proofs.laws.change.Goals as goal

pub returns-clause-told : goal.returns-clause-told
returns-clause-told c = told

pub returns-clause-acted : goal.returns-clause-acted
returns-clause-acted c = acted
