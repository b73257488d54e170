use Rattle.std.proofs.Common.{◌≤◌, length}
use Rattle.type_sizes.specs.Sizes.{AreSizes}
use Rattle.mono_collect.proofs.OneRow.{Taking}
use Rattle.mono_collect.proofs.walk.take_calls.Given as goal

abbrev pub invariant-loop-call : goal.invariant-loop-call
invariant-loop-call l = record { taking : Taking l.initial.tree l.tree l.limit l.member l.instance l.calls l.initial.found l.found l.call-index l.row.items; count : length l.sizes.items ≤ length l.tree.rows; sizes : AreSizes l.tree.rows l.sizes.items }
