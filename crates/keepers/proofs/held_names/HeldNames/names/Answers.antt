use Rattle.keepers.proofs.HeldInOrder.{names-answered, order-answered}
use Rattle.keepers.proofs.held_names.HeldNames.names.Goals as goal

pub returns-clause-names : goal.returns-clause-names
returns-clause-names c = names-answered c.self.inside.names c.args.self.now c.keys_of.result c.keys_of.ensures.ordered c.self.view_is c.keys_of.ensures.keys

pub returns-clause-ordered : goal.returns-clause-ordered
returns-clause-ordered c = order-answered c.self.inside.names c.keys_of.result c.keys_of.ensures.ordered c.keys_of.ensures.keys
