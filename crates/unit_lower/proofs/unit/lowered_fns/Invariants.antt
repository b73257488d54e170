use Rattle.std.proofs.Common.{◌≡◌, [], ◌++◌, map, take, drop}
use Rattle.unit_input.specs.InputView as input
use Rattle.unit_ir.specs.Units.{fn_view}
use Rattle.unit_lower.specs.LoweredUnit.{first_fault}
use Rattle.unit_lower.proofs.Functions.{lowered_of}
use Rattle.unit_lower.proofs.unit.lowered_fns.Given as goal

abbrev pub invariant-loop-f : goal.invariant-loop-f
invariant-loop-f l =
    (l.number ≡ l.f-index)
    × (map fn_view l.made ≡ [] ++ map (lowered_of (input.input_view l.unit)) (take l.f-index l.functions))
    × (first_fault (input.input_view l.unit) l.f-index (map input.fn_view (drop l.f-index l.functions)) ≡ first_fault (input.input_view l.unit) 0 (map input.fn_view l.functions))
