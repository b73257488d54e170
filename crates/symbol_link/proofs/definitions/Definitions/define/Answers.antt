use Rattle.std.proofs.lemmas.Map.Text.{btree_map_updates_str}
use Rattle.symbol_link.proofs.definitions.Definitions.define.Goals as goal

pub returns-clause-new : goal.returns-clause-new
returns-clause-new c = btree_map_updates_str c.args.symbol.now c.args.self.now.by_symbol c.insert.new.self _ c.in_ok-earlier.ensures.updates
