use Rattle.std.proofs.Common.{rules}
use Rattle.mono_collect.proofs.Placed.{place_is}
use Rattle.mono_collect.proofs.found.Found.find.Goals as goal

pub returns : goal.returns
returns c = place_is c.self.inside.items.items c.args.self.now c.self.inside.index c.args.instance c.copied.result c.self.view_is c.self.invariant (search rules)
