use Rattle.work_products.proofs.FaultCounts.{find-faults}
use Rattle.work_products.proofs.store.find.Goals as goal

pub returns-clause-faults : goal.returns-clause-faults
returns-clause-faults g c = find-faults (g.K.Keeper.told c.args.keeper.now) c.args.text.now c.find_record.result (g.K.Keeper.told c.find_record.new.keeper) c.find_record.ensures.ends
