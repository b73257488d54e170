use Rattle.std.proofs.Common.{◌≡◌, ◌≤◌, length, map, drop, List}
use Rattle.type_table.specs.declared.row.Row.{Row}
use Rattle.lar_rules.specs.Functions.{numbered_locals}
use Rattle.lar_judge.specs.Locals.{locals_in, LocalsWithin}
use Rattle.lar_written.specs.Members.{member_view}
use Rattle.lar_written.specs.Standing.{AllInside}
use Rattle.lar_bodies.proofs.entry.param_locals.Given as goal

abbrev pub invariant-loop-number : goal.invariant-loop-number
invariant-loop-number l = record {
  few : l.number ≤ length l.params;
  within : (rows : List Row) → AllInside rows (map (λ p. p.of) l.params) → LocalsWithin rows l.locals.locals.items;
  are : (rows : List Row) → locals_in rows l.locals.locals.items ≡ numbered_locals l.number (map (member_view rows) (drop l.number l.params));
}

abbrev pub decreases-loop-number : goal.decreases-loop-number
decreases-loop-number l = l.number
