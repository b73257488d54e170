use Rattle.std.proofs.Common.{◌≡◌, take}
use Rattle.files.specs.MemoryFilesState.{held_by}
use Rattle.keepers.proofs.memory_keeper.MemoryKeeper.new.Given as goal

abbrev pub invariant-loop-file : goal.invariant-loop-file
invariant-loop-file l = l.held ≡ held_by (take l.file-index l.contents)
