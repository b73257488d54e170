use Rattle.std.proofs.Common.{◌≡◌, ◌+◌, ◌-◌, ◌++◌, map}
use Rattle.unit_ir.specs.ExprView.{expr_view}
use Rattle.unit_lower.proofs.Sequences.{loads_list}
use Rattle.unit_lower.proofs.value.loads.Given as goal

abbrev pub invariant-loop-slot : goal.invariant-loop-slot
invariant-loop-slot l = map expr_view l.made ++ loads_list l.slot (l.slot-end - l.slot) ≡ loads_list l.fn.slots.first l.fn.slots.count
