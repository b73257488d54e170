use Rattle.std.proofs.Common.{◌≡◌, ◌+◌, ◌<◌, ◌^◌, length}
use Rattle.object_format.specs.Reading.{code_fault}
use Rattle.object_format.proofs.code.fault_of.Given as goal

abbrev pub invariant-loop-left : goal.invariant-loop-left
invariant-loop-left l = record {
  within : l.place + length l.left < 2 ^ 64;
  same : code_fault l.callees l.place l.left ≡ code_fault l.callees l.at l.code;
}

abbrev pub decreases-loop-left : goal.decreases-loop-left
decreases-loop-left l = length l.left
