use Rattle.cgu_partition.proofs.Owned.{owners_more}
use Rattle.cgu_partition.proofs.homes.owners_of.Goals as goal

pub loop-item-preserved : goal.loop-item-preserved
loop-item-preserved c = owners_more c.args.names.now c.args.items.now c.in_ok-index.index c.loop-item.item-index c.loop-item.owners.items c.push.new.self.items c.item-item.result c.in_ok-owner_of.field-0 c.requires c.in_ok-index.ensures.places c.loop-item-test.true c.item-item.is c.in_ok-owner_of.ensures c.in_ok-push.ensures.items c.loop-item.invariant
