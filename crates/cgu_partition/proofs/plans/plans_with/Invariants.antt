use Rattle.std.proofs.Common.{◌≤◌}
use Rattle.std.specs.Prelude.{All}
use Rattle.cgu_partition.specs.Placed.{AreFilled}
use Rattle.cgu_partition.proofs.plans.plans_with.Given as goal

abbrev pub invariant-loop-number : goal.invariant-loop-number
invariant-loop-number l = AreFilled l.order l.homeless l.callees l.units l.homes l.number l.plans.items × All (λ s. s ≤ l.number) l.seen
