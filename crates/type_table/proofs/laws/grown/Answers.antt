use Rattle.type_table.proofs.Grown.{keeps_trans}
use Rattle.type_table.proofs.Remembered.{stands_kept}
use Rattle.type_table.proofs.laws.grown.Goals as goal

pub returns-clause-twice : goal.returns-clause-twice
returns-clause-twice c = keeps_trans

pub returns-clause-stands : goal.returns-clause-stands
returns-clause-stands c = stands_kept
