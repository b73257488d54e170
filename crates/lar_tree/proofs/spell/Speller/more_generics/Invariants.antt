use Rattle.std.proofs.Common.{◌≡◌, ◌++◌, drop}
use Rattle.lar_tree.specs.Commas.{flat_members}
use Rattle.lar_tree.specs.Items.{flat_generic}
use Rattle.lar_tree.specs.Spelling.{kinds}
use Rattle.lar_tree.proofs.spell.Speller.more_generics.Given as goal

abbrev pub invariant-loop-member : goal.invariant-loop-member
invariant-loop-member l = l.self.kinds.items ++ kinds (flat_members flat_generic (drop l.member-index l.members)) ≡ l.initial.self.kinds.items ++ kinds (flat_members flat_generic l.members)
