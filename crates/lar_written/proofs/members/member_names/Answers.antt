use Rattle.std.proofs.Common.{ap, sym, ◌∙◌, map}
use Rattle.std.proofs.lemmas.Result.{IfOk-weaker}
use Rattle.lar_tree.specs.Items.{PlainField}
use Rattle.lar_written.specs.Members.{fields_in}
use Rattle.lar_written.proofs.MemberLists.{names_in}
use Rattle.lar_written.proofs.members.member_names.Goals as goal

pub returns-in-Some : goal.returns-in-Some
returns-in-Some c =
    IfOk-weaker c.list_names.result _ _ (λ v e. e ∙ names_in c.in-Some.list ∙ ap (λ o. map (λ (f : PlainField). f.0) (fields_in o)) (sym c.in-Some.is)) c.list_names.ensures
