use Rattle.std.proofs.Common.{get_or, refl, arith}
use Rattle.std.proofs.lemmas.List.{drop_more}
use Rattle.lar_source.specs.declared.file.Span.{Span}
use Rattle.lar_tree.specs.declared.item.Attribute.{Attribute}
use Rattle.lar_tree.specs.declared.item.AttributeWord.TheVariants.{Inline}
use Rattle.lar_tree.specs.Items.{flat_attribute, flat_attributes}
use Rattle.lar_tree.proofs.Onwards.{onwards_here}
use Rattle.lar_tree.proofs.spell.Speller.attributes.Goals as goal

abbrev nowhere : Span
nowhere = record { file = 0; line = 0; col = 0 }

-- what a read past the end would give
abbrev past : Attribute
past = record { hash = nowhere; «open» = nowhere; word = Inline; span = nowhere; close = nowhere }

pub loop-attribute-preserved : goal.loop-attribute-preserved
loop-attribute-preserved c =
    let xs = c.args.attributes.now in
    let i = c.loop-attribute.attribute-index in
    onwards_here {A = Attribute} flat_attributes flat_attribute xs i (get_or xs i past) _ _ _ (λ ys. refl) (drop_more xs i past (omega arith)) c.loop-attribute.invariant c.in_ok-attribute.ensures
