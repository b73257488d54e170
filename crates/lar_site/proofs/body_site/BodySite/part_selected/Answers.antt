use Rattle.std.proofs.Common.{◌∙◌}
use Rattle.std.proofs.lemmas.Result.{IfOk-weaker}
use Rattle.lar_names.specs.NamesView.{names_view}
use Rattle.lar_site.proofs.ByNumber.{struct_selected}
use Rattle.lar_site.proofs.body_site.BodySite.part_selected.Goals as goal

pub returns-in-Struct-clause-is : goal.returns-in-Struct-clause-is
returns-in-Struct-clause-is c =
    IfOk-weaker c.field_part.result _ _ (λ p e. e ∙ struct_selected (names_view c.args.self.now.written.names.now) c.args.types.now c.args.of c.in-Struct.number c.in-Struct.generics c.args.selector.now c.in-Name.name c.in-Name.is c.in-Struct.ensures.stands) c.field_part.ensures.is
