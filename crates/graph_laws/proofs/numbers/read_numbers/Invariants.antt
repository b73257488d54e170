use Rattle.std.proofs.Common.{ℕ, ◌<◌}
use Rattle.type_table.specs.Rows.{row_at}
use Rattle.graph_laws.specs.Numbers.{SmallRow}
use Rattle.graph_laws.proofs.numbers.read_numbers.Given as goal

abbrev pub invariant-loop-number : goal.invariant-loop-number
invariant-loop-number l = (k : ℕ) → k < l.number → SmallRow (row_at l.types k)
