use Rattle.std.proofs.Common.{refl}
use Rattle.work_products.specs.Pruning.{is_unwanted}
use Rattle.work_products.proofs.PruneSteps.{stops-at}
use Rattle.work_products.proofs.pruning.remove_all.Goals as goal

pub returns-then-not-remove_unwanted-clause-failed : goal.returns-then-not-remove_unwanted-clause-failed
returns-then-not-remove_unwanted-clause-failed g c = λ _.
    let f = c.if-not-remove_unwanted.ensures.failed refl in
    let told = g.K.Keeper.told in
    stops-at (is_unwanted c.args.wanted.now) c.args.listed.now c.loop-name.name-index c.name-item.result c.as_str.result.now (told c.args.keeper.now) (told c.loop-name.keeper) (told c.remove_unwanted.new.keeper)
    c.loop-name-test.true c.name-item.is c.as_str.ensures.value c.loop-name.invariant f.0 f.1
