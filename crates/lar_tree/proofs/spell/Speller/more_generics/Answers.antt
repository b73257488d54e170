use Rattle.std.proofs.Common.{◌∷◌, refl, arith}
use Rattle.lar_tree.specs.declared.commas.Member.{Member}
use Rattle.lar_tree.specs.declared.item.Generic.{Generic}
use Rattle.lar_tree.specs.Commas.{flat_members}
use Rattle.lar_tree.specs.Items.{flat_generic}
use Rattle.lar_tree.specs.declared.sign.Sign.TheVariants as sign
use Rattle.lar_tree.specs.Spelling.{sign_token}
use Rattle.lar_tree.proofs.Onwards.{onwards, twice}
use Rattle.lar_tree.proofs.spell.Speller.more_generics.Goals as goal

pub loop-member-preserved : goal.loop-member-preserved
loop-member-preserved c =
    let done = twice _ _ _ _ _ c.in_ok-sign.ensures c.in_ok-generic.ensures in
    onwards {A = Member Generic} (λ xs. flat_members flat_generic xs) (λ x. sign_token sign.Comma x.comma ∷ flat_generic x.value) c.args.members.now c.loop-member.member-index c.member-item.result _ _ _ (λ ys. refl) (omega arith) c.member-item.is c.loop-member.invariant done
