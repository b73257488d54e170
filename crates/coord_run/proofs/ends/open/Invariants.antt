use Rattle.std.proofs.Common.{◌≡◌, ◌≤◌, Some, vec_len, vec_capacity}
use Rattle.std.specs.Arc.{arc_value}
use Rattle.crossbeam_channel.specs.Ends.{sends_on}
use Rattle.crossbeam_channel.specs.Claims.{view, IsSeatAt}
use Rattle.coord_run.proofs.ends.open.Given as goal

abbrev pub invariant-loop-lane : goal.invariant-loop-lane
invariant-loop-lane g l = record {
  count : vec_len l.handles ≤ l.lane;
  room : l.lanes ≤ vec_capacity l.handles;
  jobs_seat : IsSeatAt (sends_on l.jobs) l.job_pass;
  jobs_work : view l.job_pass ≡ Some (arc_value l.work);
  dones_seat : IsSeatAt (sends_on l.done_end) l.done_pass;
  dones_work : view l.done_pass ≡ Some (arc_value l.work);
}
