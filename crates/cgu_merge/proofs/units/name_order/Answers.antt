use Rattle.std.proofs.Common.{map}
use Rattle.cgu_merge.specs.Ranked.{shown}
use Rattle.cgu_merge.proofs.Placing.{naming_more}
use Rattle.cgu_merge.proofs.units.name_order.Goals as goal

pub loop-size-preserved-in_ok-insert : goal.loop-size-preserved-in_ok-insert
loop-size-preserved-in_ok-insert c = naming_more (map shown c.args.units.now.entries) c.in-Some.size c.in-Some.least c.in-Some.places c.loop-size.units.entries c.pop_first.new.self.entries c.loop-size.named.entries c.insert.new.self.entries c.in-Some.ensures.removal c.in_ok-insert.ensures.entries c.loop-size.invariant

pub loop-size-preserved : goal.loop-size-preserved
loop-size-preserved c = naming_more (map shown c.args.units.now.entries) c.in-Some.size c.in-Some.least c.in-Some.places c.loop-size.units.entries c.pop_first.new.self.entries c.loop-size.named.entries c.insert.new.self.entries c.in-Some.ensures.removal c.in_ok-insert.ensures.entries c.loop-size.invariant
