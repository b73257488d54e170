use Rattle.std.proofs.Common.{◌≡◌, ◌≤◌, ◌+◌, ◌++◌, length}
use Rattle.object_format.specs.Code.{IsWhole}
use Rattle.listings.specs.Listing.{code_lines}
use Rattle.listings.proofs.listing.push_code.Given as goal

abbrev pub invariant-loop-opcode : goal.invariant-loop-opcode
invariant-loop-opcode l = record {
  within : l.offset + length l.left ≤ length l.code;
  whole : IsWhole l.left;
  listed : l.text.items ++ code_lines l.offset l.left ≡ l.initial.text.items ++ code_lines 0 l.code;
}

abbrev pub decreases-loop-opcode : goal.decreases-loop-opcode
decreases-loop-opcode l = length l.left
