use Rattle.std.proofs.Common.{◌≡◌, ℕ, ◌*◌, ◌<◌, length, List, take, slice_index_or, false}
use Rattle.stack_vm.specs.Heights.{Shows}
use Rattle.stack_vm.specs.Faults.{is_crossed}
use Rattle.stack_vm.proofs.crossing.cross.Given as goal

abbrev pub invariant-loop-placed : goal.invariant-loop-placed
invariant-loop-placed l = record {
  long : length l.crossed ≡ length l.found;
  seen : (pairs : List (ℕ × ℕ)) → Shows pairs l.found (255 * 16777216) → (t : ℕ) → t < length l.found → slice_index_or l.crossed t false ≡ is_crossed l.functions pairs t (take l.placed-index l.listed);
}
