use Rattle.coord_core.proofs.Budget.{room, few, fits}
use Rattle.coord_core.proofs.laws.room.Goals as goal

pub returns-clause-events : goal.returns-clause-events
returns-clause-events c = room

pub returns-clause-lists : goal.returns-clause-lists
returns-clause-lists c = fits

pub returns-clause-kinds : goal.returns-clause-kinds
returns-clause-kinds c = few
