use Rattle.coord_run.specs.Messages.{FitsMessage}
use Rattle.coord_run.proofs.Moving.{receives}
use Rattle.coord_run.proofs.lane.run_all.Goals as goal

pub recv_as-requires-clause-rule : goal.recv_as-requires-clause-rule
recv_as-requires-clause-rule g c = (receives (λ (w : g.row.W.Denot) (x : _). FitsMessage (g.W.Work.meaning w) x) _ _, λ items views kept at. tt)
