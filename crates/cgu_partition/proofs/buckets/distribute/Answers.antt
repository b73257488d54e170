use Rattle.std.proofs.Common.{None}
use Rattle.std.proofs.lemmas.Option.{slice_get-get_or}
use Rattle.cgu_partition.proofs.Numbered.{filling_more}
use Rattle.cgu_partition.proofs.buckets.distribute.Goals as goal

pub loop-place-preserved : goal.loop-place-preserved
loop-place-preserved c = filling_more c.args.order.now c.args.owners.now c.args.numbers.now c.loop-place.place-index c.loop-place.homes c.put.new.homes _ c.loop-place-test.true (slice_get-get_or c.args.owners.now _ None (c.requires.order c.loop-place.place-index 0 c.loop-place-test.true)) c.put.auto.homes c.in_ok-put.ensures c.loop-place.invariant
