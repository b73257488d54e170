use Rattle.std.proofs.Common.{Some, None, arith}
use Rattle.lar_tree.proofs.ListPlaces.{name_at}
use Rattle.lar_tree.proofs.name.Path.get.Goals as goal

pub returns-in-Some : goal.returns-in-Some
returns-in-Some c = name_at c.args.self.now c.args.at (Some c.in-Some.segment.now) (omega arith) c.in-Some.ensures.value

pub returns-in-None : goal.returns-in-None
returns-in-None c = name_at c.args.self.now c.args.at None (omega arith) c.in-None.ensures.value
