use Rattle.std.proofs.Common.{◌≡◌, drop}
use Rattle.lar_rules.specs.Checked.{has_word}
use Rattle.lar_assembled.proofs.parts.has_word.Given as goal

abbrev pub invariant-loop-attribute : goal.invariant-loop-attribute
invariant-loop-attribute l = has_word l.word (drop l.attribute-index l.attributes) ≡ has_word l.word l.attributes
