use Rattle.std.proofs.Common.{rules}
use Rattle.type_table.proofs.Remembered.{known_is}
use Rattle.type_table.proofs.types.Types.known.Goals as goal

pub returns : goal.returns
returns c = known_is c.self.inside.table c.args.self.now c.self.inside.known (c.args.ty, c.args.arguments) c.copied.result c.self.view_is c.self.invariant (search rules)
