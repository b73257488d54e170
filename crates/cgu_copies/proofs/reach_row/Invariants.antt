use Rattle.std.proofs.Common.{◌≤◌, take}
use Rattle.std.specs.Prelude.{All}
use Rattle.cgu_copies.specs.Copies.{Reached}
use Rattle.cgu_copies.proofs.reach_row.Given as goal

abbrev pub invariant-loop-target : goal.invariant-loop-target
invariant-loop-target l = Reached l.homeless l.mark (take l.target-index l.row) l.initial.found.items l.seen l.found.items × All (λ s. s ≤ l.mark) l.seen
