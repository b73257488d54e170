use Rattle.coord_run.specs.Messages.{FitsDone}
use Rattle.coord_run.proofs.Moving.{receives}
use Rattle.coord_run.proofs.ends.Ends.next.Goals as goal

pub recv_as-requires-clause-rule : goal.recv_as-requires-clause-rule
recv_as-requires-clause-rule g c = (receives (λ (w : g.row.W.Denot) (x : _). FitsDone (g.W.Work.meaning w) x) _ _, λ items views kept at. tt)
