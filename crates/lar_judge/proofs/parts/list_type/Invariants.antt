use Rattle.std.proofs.Common.{◌≤◌, length, drop}
use Rattle.type_table.specs.Rows.{Keeps, Stands}
use Rattle.lar_rules.specs.Exprs.{types_of}
use Rattle.lar_judge.specs.Lists.{exprs_in}
use Rattle.lar_judge.proofs.parts.list_type.Given as goal

abbrev pub invariant-loop-left : goal.invariant-loop-left
invariant-loop-left l = record {
  within : l.left ≤ length l.parts;
  kept : Keeps l.fn.types l.types;
  list : Stands l.types l.list (types_of (exprs_in l.fn.types (drop l.left l.parts)));
}

abbrev pub decreases-loop-left : goal.decreases-loop-left
decreases-loop-left l = l.left
