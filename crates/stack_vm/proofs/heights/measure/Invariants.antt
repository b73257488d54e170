use Rattle.std.proofs.Common.{◌≡◌, ℕ, ◌*◌, ◌≤◌, length, take, Some}
use Rattle.stack_vm.specs.Heights.{heights, reached, at_start, Shows, greatest}
use Rattle.stack_vm.proofs.heights.measure.Given as goal

abbrev pub invariant-loop-placed : goal.invariant-loop-placed
invariant-loop-placed l = record {
  numbers : length l.brought ≡ length l.initial.brought;
  handed : l.before ≡ (reached l.functions at_start (take l.placed-index l.listed)).handed;
  few : (h : ℕ) → l.before ≡ Some h → h ≤ 255 * l.placed-index;
  brought : Shows (reached l.functions at_start (take l.placed-index l.listed)).jumps l.brought (255 * l.placed-index);
  found : Shows (heights l.functions at_start (take l.placed-index l.listed)) l.found (255 * l.placed-index);
  most : l.most ≡ greatest (heights l.functions at_start (take l.placed-index l.listed));
}
