use Rattle.std.proofs.Common.{◌≡◌, length}
use Rattle.type_widths.proofs.row_forms.empty.Given as goal

abbrev pub invariant-loop : goal.invariant-loop
invariant-loop l = length l.forms.items ≡ l.counter
