use Rattle.std.proofs.Common.{◌≡◌, ◌++◌, length}
use Rattle.object_format.specs.Code.{IsLinkedCode}
use Rattle.symbol_link.specs.Callees.{place_by, reach}
use Rattle.symbol_link.specs.Relocation.{relocated}
use Rattle.symbol_link.proofs.relocating.Callees.relocated.Given as goal

abbrev pub invariant-loop-opcode : goal.invariant-loop-opcode
invariant-loop-opcode l = record {
  linked : IsLinkedCode (reach l.self) l.left;
  copied : l.out ++ relocated (place_by l.self) l.left ≡ relocated (place_by l.self) l.code;
}

abbrev pub decreases-loop-opcode : goal.decreases-loop-opcode
decreases-loop-opcode l = length l.left
