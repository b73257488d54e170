use Rattle.std.proofs.Common.{◌≡◌}
use Rattle.std.specs.Arc.{arc_value}
use Rattle.coord_run.proofs.ends.Ends.next.Given as goal

abbrev pub invariant-loop : goal.invariant-loop
invariant-loop g l = arc_value l.self.work ≡ arc_value l.initial.self.work
