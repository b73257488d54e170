use Rattle.std.proofs.Common.{rules}
use Rattle.mono_collect.proofs.Placed.{pushed}
use Rattle.mono_collect.proofs.found.Found.push.Goals as goal

pub invariant_of-self-2 : goal.invariant_of-self-2
invariant_of-self-2 c = pushed c.self.inside.items.items c.push.new.self.items c.self.inside.index c.insert.new.self c.args.instance c.len-place.result c.self.invariant (search rules) (search rules) c.in_ok-insert.ensures.updates.0
