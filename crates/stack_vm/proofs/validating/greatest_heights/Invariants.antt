use Rattle.std.proofs.Common.{◌≡◌, ◌+◌, ◌*◌, ◌≤◌, map, take, drop}
use Rattle.stack_vm.specs.Heights.{greatest_of}
use Rattle.stack_vm.specs.Faults.{functions_fault}
use Rattle.stack_vm.proofs.validating.greatest_heights.Given as goal

abbrev pub invariant-loop-function : goal.invariant-loop-function
invariant-loop-function l = record {
  fits : l.at ≤ 14 + 17000000 * l.function-index;
  all : l.all.items ≡ map (greatest_of l.functions) (take l.function-index l.functions);
  fault : functions_fault l.functions l.version l.at (drop l.function-index l.functions) ≡ functions_fault l.functions l.version 14 l.functions;
}
