use Rattle.build_front.proofs.AllParsed.{SoFar}
use Rattle.build_front.proofs.parsing.all_parsed.Given as goal

abbrev pub invariant-loop-file : goal.invariant-loop-file
invariant-loop-file l = SoFar l.files l.number l.trees.items l.file-index
