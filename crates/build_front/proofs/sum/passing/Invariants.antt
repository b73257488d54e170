use Rattle.std.proofs.Common.{◌≡◌, drop}
use Rattle.build_front.specs.Front as spec
use Rattle.build_front.proofs.sum.passing.Given as goal

abbrev pub invariant-loop-file : goal.invariant-loop-file
invariant-loop-file l = spec.passing spec.max_bytes l.files ≡ spec.passing l.left (drop l.file-index l.files)
