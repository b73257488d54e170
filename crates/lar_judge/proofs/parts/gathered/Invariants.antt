use Rattle.std.proofs.Common.{◌≡◌, List}
use Rattle.type_table.specs.declared.row.Row.{Row}
use Rattle.lar_rules.specs.Judged as rules
use Rattle.lar_judge.specs.Lists.{all_in, AllWithin, JudgedWithin, knowns}
use Rattle.lar_judge.proofs.parts.gathered.Given as goal

abbrev pub invariant-loop-part : goal.invariant-loop-part
invariant-loop-part l = record {
  within : (rows : List Row) → JudgedWithin rows l.yielded → AllWithin rows l.done;
  is : (rows : List Row) → all_in rows l.done ≡ rules.all_typed (knowns rows l.yielded);
}
