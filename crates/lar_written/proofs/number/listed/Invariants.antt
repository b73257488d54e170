use Rattle.std.proofs.Common.{◌≡◌, ◌≤◌, length, map, drop}
use Rattle.type_table.specs.Rows.{Keeps}
use Rattle.lar_written.specs.Standing.{number_type, StandsIf, list_if}
use Rattle.lar_written.proofs.number.listed.Given as goal

abbrev pub invariant-loop-at : goal.invariant-loop-at
invariant-loop-at l = record {
  kept : Keeps l.fn.types l.types;
  below : l.at ≤ length l.members;
  list : StandsIf l.types l.list (list_if (map (number_type l.fn.types) (drop l.at l.members)));
}

abbrev pub decreases-loop-at : goal.decreases-loop-at
decreases-loop-at l = l.at
