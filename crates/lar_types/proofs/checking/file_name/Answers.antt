use Rattle.std.proofs.Common.{◌∙◌}
use Rattle.std.proofs.lemmas.Result.{IfOk-weaker}
use Rattle.lar_types.proofs.NameFacts.{name_missing, name_found}
use Rattle.lar_types.proofs.checking.file_name.Goals as goal

pub returns-in-None : goal.returns-in-None
returns-in-None c = c.new.ensures ∙ name_missing c.args.trees.now c.args.file c.in-None.ensures.lookup.3

pub returns-in-Some : goal.returns-in-Some
returns-in-Some c =
    IfOk-weaker c.copied.result _ _ (λ name e. e ∙ c.as_str.ensures.text ∙ name_found c.args.trees.now c.args.file c.in-Some.tree.now c.in-Some.ensures.lookup.3.0 c.in-Some.ensures.lookup.1) c.copied.ensures
