use Rattle.std.proofs.Common.{◌≡◌, ◌++◌, drop}
use Rattle.lar_tree.specs.Spelling.{kinds, flat_segments}
use Rattle.lar_tree.proofs.spell.Speller.segments.Given as goal

abbrev pub invariant-loop-segment : goal.invariant-loop-segment
invariant-loop-segment l = l.self.kinds.items ++ kinds (flat_segments (drop l.segment-index l.segments)) ≡ l.initial.self.kinds.items ++ kinds (flat_segments l.segments)
