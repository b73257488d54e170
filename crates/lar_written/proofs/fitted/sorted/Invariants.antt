use Rattle.std.proofs.Common.{◌≡◌, ◌≤◌, length, map, drop}
use Rattle.type_table.specs.Rows.{Keeps}
use Rattle.lar_rules.specs.Written.{sorted_list}
use Rattle.lar_written.specs.Given.{given_view}
use Rattle.lar_written.specs.Standing.{StandsIf}
use Rattle.lar_written.proofs.fitted.sorted.Given as goal

abbrev pub invariant-loop-at : goal.invariant-loop-at
invariant-loop-at l = record {
  kept : Keeps l.fn.types l.types;
  below : l.at ≤ length l.sorts;
  list : StandsIf l.types l.list (sorted_list (drop l.at l.sorts) (map (given_view l.fn.types) (drop l.at l.given)));
}

abbrev pub decreases-loop-at : goal.decreases-loop-at
decreases-loop-at l = l.at
