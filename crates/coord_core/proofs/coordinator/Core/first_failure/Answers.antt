use Rattle.std.proofs.Common.{ap, ◌∙◌}
use Rattle.coord_core.specs.Journal.{least, failed}
use Rattle.coord_core.specs.Core.{CoreState}
use Rattle.coord_core.proofs.coordinator.Core.first_failure.Goals as goal

pub returns : goal.returns
returns c = c.self.invariant.0.failure_is ∙ ap (λ (v : CoreState). least (failed v.journal)) c.self.view_is
