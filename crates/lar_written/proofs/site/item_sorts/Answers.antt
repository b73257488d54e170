use Rattle.std.proofs.Common.{ap, sym, ◌∙◌, map}
use Rattle.std.proofs.lemmas.Result.{IfOk-weaker}
use Rattle.lar_tree.specs.PlainLists.{values}
use Rattle.lar_rules.specs.Generics.{GenericName, struct_generics}
use Rattle.lar_written.specs.Sites.{all_types}
use Rattle.lar_written.proofs.Numbers.{types_of_names}
use Rattle.lar_written.proofs.site.item_sorts.Goals as goal

pub returns-in-Some : goal.returns-in-Some
returns-in-Some c =
    IfOk-weaker c.type_sorts.result _ _ (λ v e. e ∙ ap all_types c.len.ensures ∙ types_of_names (values c.in-Some.generics.list) ∙ ap (λ o. map (λ (g : GenericName). g.sort) (struct_generics o)) (sym c.in-Some.is)) c.type_sorts.ensures
