use Rattle.std.proofs.Common.{◌≡◌, ◌-◌, ◌++◌, take, replicate, pos}
use Rattle.stack_vm.proofs.copies.clear.Given as goal

abbrev pub invariant-loop-at : goal.invariant-loop-at
invariant-loop-at l = take l.at l.words ≡ take l.from l.initial.words ++ replicate (l.at - l.from) (pos 0)
