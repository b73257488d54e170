use Rattle.std.proofs.Common.{◌≡◌, ◌++◌, drop}
use Rattle.lar_tree.specs.Items.{flat_attributes}
use Rattle.lar_tree.specs.Spelling.{kinds}
use Rattle.lar_tree.proofs.spell.Speller.attributes.Given as goal

abbrev pub invariant-loop-attribute : goal.invariant-loop-attribute
invariant-loop-attribute l = l.self.kinds.items ++ kinds (flat_attributes (drop l.attribute-index l.attributes)) ≡ l.initial.self.kinds.items ++ kinds (flat_attributes l.attributes)
