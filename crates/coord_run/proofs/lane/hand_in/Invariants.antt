use Rattle.std.proofs.Common.{◌≡◌, Some}
use Rattle.std.specs.Arc.{arc_value}
use Rattle.crossbeam_channel.specs.Ends.{sends_on}
use Rattle.crossbeam_channel.specs.Claims.{view, IsSeatAt}
use Rattle.coord_run.specs.Messages.{FitsDone}
use Rattle.coord_run.proofs.lane.hand_in.Given as goal

abbrev pub invariant-loop : goal.invariant-loop
invariant-loop g l = IsSeatAt (sends_on l.dones) l.pass × (view l.pass ≡ Some (arc_value l.work)) × FitsDone (g.W.Work.meaning (arc_value l.work)) l.next
