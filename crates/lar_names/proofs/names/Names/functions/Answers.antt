use Rattle.std.proofs.Common.{map, ap, ◌∙◌}
use Rattle.lar_names.specs.Items.{function_item}
use Rattle.lar_names.proofs.IndexFacts.{functions_view}
use Rattle.lar_names.proofs.names.Names.functions.Goals as goal

pub returns : goal.returns
returns c = record { all = ap (map (function_item c.args.self.now.scopes)) (c.deref.ensures.value ∙ c.args.self.now.items.functions) ∙ functions_view c.args.self.now.scopes c.args.self.now.declared.items }
