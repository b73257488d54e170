use Rattle.crossbeam_channel.specs.Ends.{sends_on}
use Rattle.crossbeam_channel.specs.Claims.{IsSeatAt}
use Rattle.coord_run.proofs.ends.Ends.close.Given as goal

abbrev pub invariant-loop-lane : goal.invariant-loop-lane
invariant-loop-lane g l = IsSeatAt (sends_on l.jobs) l.job_pass
