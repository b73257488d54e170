use Rattle.std.proofs.Common.{◌∙◌, ap, refl}
use Rattle.std.specs.Prelude.{nat_abs}
use Rattle.std.proofs.Math.Facts.{to_z-of_z}
use Rattle.lar_tree.specs.declared.expr.Selector.TheVariants as selector
use Rattle.lar_site.proofs.ByNumber.{tuple_selected}
use Rattle.lar_site.proofs.selecting.part_numbered.Goals as goal

pub returns-in-Tuple-clause-is : goal.returns-in-Tuple-clause-is
returns-in-Tuple-clause-is c = λ all at.
    c.tuple_part.ensures.is ∙ tuple_selected all c.args.types.now c.args.of c.in-Tuple.parts c.place_of.result (selector.Number c.args.number at) c.args.number at refl c.in-Tuple.ensures.stands (c.place_of.ensures ∙ ap nat_abs (to_z-of_z c.ranges.number))
