use Rattle.std.proofs.Common.{◌∷◌, [], refl, arith}
use Rattle.lar_tree.specs.declared.name.Segment.{Segment}
use Rattle.lar_tree.specs.declared.sign.Sign.TheVariants as sign
use Rattle.lar_tree.specs.Spelling.{flat_segments, name_token, sign_token}
use Rattle.lar_tree.proofs.Onwards.{onwards, twice}
use Rattle.lar_tree.proofs.spell.Speller.segments.Goals as goal

pub loop-segment-preserved : goal.loop-segment-preserved
loop-segment-preserved c =
    let done = twice _ _ _ _ _ c.in_ok-sign.ensures c.in_ok-name.ensures in
    onwards {A = Segment} (λ xs. flat_segments xs) (λ x. sign_token sign.PathSep x.sep ∷ name_token x.name ∷ []) c.args.segments.now c.loop-segment.segment-index c.segment-item.result _ _ _ (λ ys. refl) (omega arith) c.segment-item.is c.loop-segment.invariant done
