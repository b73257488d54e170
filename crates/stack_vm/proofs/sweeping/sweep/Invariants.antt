use Rattle.std.proofs.Common.{◌-◌, length}
use Rattle.stack_vm.specs.Sweep.{Swept}
use Rattle.stack_vm.proofs.sweeping.sweep.Given as goal

abbrev pub invariant-loop-offset : goal.invariant-loop-offset
invariant-loop-offset l = Swept l.functions l.function l.offset l.handed l.most l.noted

abbrev pub decreases-loop-offset : goal.decreases-loop-offset
decreases-loop-offset l = length l.code - l.offset
