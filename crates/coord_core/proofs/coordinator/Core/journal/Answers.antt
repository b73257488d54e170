use Rattle.std.proofs.Common.{subst}
use Rattle.coord_core.specs.Run.{Lawful}
use Rattle.coord_core.specs.Core.{CoreState}
use Rattle.coord_core.proofs.coordinator.Core.journal.Goals as goal

pub returns-clause-lawful : goal.returns-clause-lawful
returns-clause-lawful c = subst (λ (v : CoreState). Lawful v.terms v.journal) c.self.view_is c.self.invariant.0.lawful
