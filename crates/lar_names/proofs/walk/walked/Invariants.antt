use Rattle.std.proofs.Common.{drop}
use Rattle.lar_names.specs.Sources.{sources_of}
use Rattle.lar_names.proofs.WalkFacts.{FilesSoFar}
use Rattle.lar_names.proofs.walk.walked.Given as goal

abbrev pub invariant-loop-file : goal.invariant-loop-file
invariant-loop-file l = FilesSoFar (sources_of l.trees) l.file (sources_of (drop l.file l.trees)) l.found.declared.items l.found.scopes
