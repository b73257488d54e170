use Rattle.std.proofs.Common.{ap, arith, length}
use Rattle.lar_names.proofs.ScopeFacts.{lists_counted}
use Rattle.lar_names.proofs.scopes.Scopes.len.Goals as goal

pub returns-clause-len : goal.returns-clause-len
returns-clause-len c = let a = lists_counted c.self.inside.places.items in let b = ap length c.self.view_is in omega (arith, a, b, c.len.ensures)
