use Rattle.std.proofs.Common.{◌≡◌, ◌+◌, ◌-◌, ◌≤◌, length, drop}
use Rattle.lar_judge.specs.Making.{alike, names}
use Rattle.lar_judge.proofs.making.same_names.Given as goal

abbrev pub invariant-loop-same : goal.invariant-loop-same
invariant-loop-same l = record {
  few : l.same ≤ length l.fields;
  is : l.same + alike (names (drop l.same l.fields)) (names (drop l.same l.set)) ≡ alike (names l.fields) (names l.set);
}

abbrev pub decreases-loop-same : goal.decreases-loop-same
decreases-loop-same l = length l.fields - l.same
