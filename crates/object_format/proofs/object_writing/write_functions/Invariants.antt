use Rattle.std.proofs.Common.{◌≡◌, ◌++◌, take}
use Rattle.std.specs.List.{flat_map}
use Rattle.object_format.specs.Object.{unlinked_spelling}
use Rattle.object_format.specs.declared.version.Version.TheVariants.{Two}
use Rattle.object_format.proofs.object_writing.write_functions.Given as goal

abbrev pub invariant-loop-function : goal.invariant-loop-function
invariant-loop-function l = l.out ≡ l.initial.out ++ flat_map (unlinked_spelling Two) (take l.function-index l.functions)
