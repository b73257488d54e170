use Rattle.std.proofs.Common.{Some, None, arith}
use Rattle.lar_tree.proofs.ListPlaces.{member_at}
use Rattle.lar_tree.proofs.commas.Commas.get.Goals as goal

pub returns-in-Some : goal.returns-in-Some
returns-in-Some g c = member_at c.args.self.now c.args.at (Some c.in-Some.member.now) (omega arith) c.in-Some.ensures.value

pub returns-in-None : goal.returns-in-None
returns-in-None g c = member_at c.args.self.now c.args.at None (omega arith) c.in-None.ensures.value
