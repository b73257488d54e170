use Rattle.std.proofs.Common.{◌≡◌, ℕ, ◌-◌, ◌≤◌, ◌++◌, length, drop, Option, None}
use Rattle.object_format.specs.Reading.{code_fault}
use Rattle.stack_vm.specs.Operation.{placed}
use Rattle.stack_vm.proofs.operation.list.Given as goal

abbrev pub invariant-loop-offset : goal.invariant-loop-offset
invariant-loop-offset l = record {
  within : l.offset ≤ length l.code;
  whole : (count : Option ℕ) × (code_fault count l.offset (drop l.offset l.code) ≡ None);
  all : l.listed.items ++ placed l.offset 0 (drop l.offset l.code) ≡ placed 0 0 l.code;
}

abbrev pub decreases-loop-offset : goal.decreases-loop-offset
decreases-loop-offset l = length l.code - l.offset
