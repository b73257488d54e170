use Rattle.work_products.proofs.PruneSteps.{holds-next}
use Rattle.work_products.proofs.pruning.set_of.Goals as goal

pub loop-name-preserved : goal.loop-name-preserved
loop-name-preserved c =
    holds-next c.loop-name.set c.insert.new.self c.args.names.now c.loop-name.name-index c.name-item.result c.as_str.result.now c.loop-name-test.true c.name-item.is c.as_str.ensures.text c.in_ok-insert.ensures.updates c.loop-name.invariant
