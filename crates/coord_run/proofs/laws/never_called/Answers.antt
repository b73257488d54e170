use Rattle.coord_run.proofs.SessionLemmas.{never-repaid}
use Rattle.coord_run.proofs.laws.never_called.Goals as goal

pub returns : goal.returns
returns c = never-repaid
