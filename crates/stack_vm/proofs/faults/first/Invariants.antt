use Rattle.std.proofs.Common.{◌≡◌, ℕ, ◌*◌, ◌<◌, length, List, drop, false}
use Rattle.std.specs.Prelude.{slice_index_or}
use Rattle.stack_vm.specs.Heights.{Shows}
use Rattle.stack_vm.specs.Faults.{code_faults, is_crossed, IsWithin}
use Rattle.stack_vm.proofs.faults.first.Given as goal

abbrev pub invariant-loop-index : goal.invariant-loop-index
invariant-loop-index l = (pairs : List (ℕ × ℕ)) → Shows pairs l.found (255 * 16777216) → IsWithin pairs (length l.found)
    → ((t : ℕ) → t < length l.crossed → slice_index_or l.crossed t false ≡ is_crossed l.functions pairs t l.listed)
    → code_faults l.functions pairs l.function l.listed l.at (drop l.index l.listed) ≡ code_faults l.functions pairs l.function l.listed l.at l.listed
