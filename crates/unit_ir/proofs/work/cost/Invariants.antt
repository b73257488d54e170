use Rattle.std.proofs.Common.{◌≡◌, ◌+◌, ◌≤◌, min, drop, map}
use Rattle.unit_ir.specs.Cost.{functions_cost}
use Rattle.unit_ir.specs.Units.{fn_view}
use Rattle.unit_ir.proofs.work.cost.Given as goal

abbrev pub invariant-loop-function : goal.invariant-loop-function
invariant-loop-function l = (l.total ≤ 4294967295) × (min (l.total + functions_cost (map fn_view (drop l.function-index l.function-items))) 4294967295 ≡ min (functions_cost (map fn_view l.function-items)) 4294967295)
