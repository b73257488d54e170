use Rattle.std.proofs.Common.{map, ap, ◌∙◌}
use Rattle.lar_names.specs.Items.{const_item}
use Rattle.lar_names.proofs.IndexFacts.{consts_view}
use Rattle.lar_names.proofs.names.Names.consts.Goals as goal

pub returns : goal.returns
returns c = record { all = ap (map (const_item c.args.self.now.scopes)) (c.deref.ensures.value ∙ c.args.self.now.items.consts) ∙ consts_view c.args.self.now.scopes c.args.self.now.declared.items }
