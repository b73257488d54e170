use Rattle.coord_run.specs.Messages.{FitsMessage, FitsDone}
use Rattle.coord_run.proofs.Moving.{forks}
use Rattle.coord_run.proofs.lane.seat.Goals as goal

pub another-own_job_pass-requires-clause-rule : goal.another-own_job_pass-requires-clause-rule
another-own_job_pass-requires-clause-rule g c = forks (λ (w : g.row.W.Denot) (x : _). FitsMessage (g.W.Work.meaning w) x) _ _

pub another-own_done_pass-requires-clause-rule : goal.another-own_done_pass-requires-clause-rule
another-own_done_pass-requires-clause-rule g c = forks (λ (w : g.row.W.Denot) (x : _). FitsDone (g.W.Work.meaning w) x) _ _
