use Rattle.std.proofs.Common.{Ok, sym, ap, ◌∙◌, subst}
use Rattle.object_format.specs.Object.{SpellsObject}
use Rattle.unit_object.proofs.Answered.{read_same, read_refused}
use Rattle.unit_object.proofs.making.make_object.Goals as goal

pub returns-in-Ok-read_object-clause-object : goal.returns-in-Ok-read_object-clause-object
returns-in-Ok-read_object-clause-object g c =
    let is = c.in-Ok.ensures.read in
    let spells = subst (λ b. SpellsObject b is.object) (sym c.as_slice.ensures) is.spells in
    is.made ∙ ap Ok (read_same is.object c.in-Ok-read_object.object (c.in-Ok-read_object.ensures.only is.object spells))

pub unreachable-requires : goal.unreachable-requires
unreachable-requires g c =
    let is = c.in-Ok.ensures.read in
    let spells = subst (λ b. SpellsObject b is.object) (sym c.as_slice.ensures) is.spells in
    read_refused is.object c.in-Err-Refused.field-0 c.in-Err-Refused.field-0-0 c.in-Err-Refused.field-0-is (c.in-Err-Refused.ensures.only is.object spells)
