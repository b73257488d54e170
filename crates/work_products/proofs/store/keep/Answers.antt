use Rattle.work_products.proofs.FaultCounts.{keep-faults}
use Rattle.work_products.proofs.store.keep.Goals as goal

pub returns-clause-faults : goal.returns-clause-faults
returns-clause-faults g c = keep-faults (g.K.Keeper.told c.args.keeper.now) c.args.text.now c.args.object.now c.keep_record.result (g.K.Keeper.told c.keep_record.new.keeper) c.keep_record.ensures
