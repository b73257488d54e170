use Rattle.coord_run.specs.Messages.{FitsMessage, FitsDone}
use Rattle.coord_run.proofs.Moving.{opens}
use Rattle.coord_run.proofs.ends.open.Goals as goal

pub bounded_with-requires-clause-rule : goal.bounded_with-requires-clause-rule
bounded_with-requires-clause-rule g c = opens (λ (w : g.row.W.Denot) (x : _). FitsMessage (g.W.Work.meaning w) x) _

pub bounded_with-requires-2-clause-rule : goal.bounded_with-requires-2-clause-rule
bounded_with-requires-2-clause-rule g c = opens (λ (w : g.row.W.Denot) (x : _). FitsDone (g.W.Work.meaning w) x) _
