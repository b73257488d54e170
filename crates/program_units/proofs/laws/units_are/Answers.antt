use Rattle.program_units.proofs.Placed.{units_are, lines_are}
use Rattle.program_units.proofs.laws.units_are.Goals as goal

pub returns-clause-units : goal.returns-clause-units
returns-clause-units c = units_are

pub returns-clause-lines : goal.returns-clause-lines
returns-clause-lines c = lines_are
