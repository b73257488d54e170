use Rattle.std.proofs.Common.{◌≡◌, ◌≤◌, ◌-◌}
use Rattle.struct_chains.specs.Chains.{lists, all_followers}
use Rattle.struct_chains.proofs.chain.followers.Given as goal

abbrev pub invariant-loop-rounds : goal.invariant-loop-rounds
invariant-loop-rounds l = record {
  so_far : l.so_far.items ≡ all_followers (lists l.graph) l.rounds;
  below : l.rounds ≤ l.limit;
}

abbrev pub decreases-loop-rounds : goal.decreases-loop-rounds
decreases-loop-rounds l = l.limit - l.rounds
