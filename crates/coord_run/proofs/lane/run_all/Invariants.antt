use Rattle.std.proofs.Common.{◌≡◌, Some}
use Rattle.std.specs.Arc.{arc_value}
use Rattle.crossbeam_channel.specs.Ends.{sends_on, receives_on}
use Rattle.crossbeam_channel.specs.Claims.{view, IsSeatAt}
use Rattle.coord_run.proofs.lane.run_all.Given as goal

abbrev pub invariant-loop : goal.invariant-loop
invariant-loop g l = (IsSeatAt (receives_on l.jobs) l.job_pass × (view l.job_pass ≡ Some (arc_value l.work))) × (IsSeatAt (sends_on l.dones) l.done_pass × (view l.done_pass ≡ Some (arc_value l.work)))
