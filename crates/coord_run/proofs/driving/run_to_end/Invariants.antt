use Rattle.std.proofs.Common.{◌≡◌}
use Rattle.coord_core.specs.Journal.{jobs_by}
use Rattle.coord_run.specs.Tied.{Runs}
use Rattle.coord_run.proofs.driving.run_to_end.Given as goal

abbrev pub invariant-loop : goal.invariant-loop
invariant-loop g l = record {
  work : l.session.lanes.work ≡ l.initial.session.lanes.work;
  keeps : Runs (g.W.Work.meaning l.initial.session.lanes.work) l.initial.session.books (jobs_by l.initial.actions) l.initial.desk (g.Q.TokenPool.told l.initial.pool) l.initial.session.lanes.waiting l.session.books (jobs_by l.actions) l.desk (g.Q.TokenPool.told l.pool) l.session.lanes.waiting;
}
