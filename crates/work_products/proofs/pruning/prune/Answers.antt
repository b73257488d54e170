use Rattle.work_products.proofs.FaultCounts.{prune-faults}
use Rattle.work_products.proofs.PruneSteps.{prune-tells, prune-keeps}
use Rattle.work_products.proofs.pruning.prune.Goals as goal

pub returns-clause-tells : goal.returns-clause-tells
returns-clause-tells g c = prune-tells (g.K.Keeper.told c.args.keeper.now) c.args.names.now c.prune_names.result (g.K.Keeper.told c.prune_names.new.keeper) c.prune_names.ensures

pub returns-clause-others : goal.returns-clause-others
returns-clause-others g c = prune-keeps (g.K.Keeper.told c.args.keeper.now) c.args.names.now c.prune_names.result (g.K.Keeper.told c.prune_names.new.keeper) c.prune_names.ensures

pub returns-clause-faults : goal.returns-clause-faults
returns-clause-faults g c = prune-faults (g.K.Keeper.told c.args.keeper.now) c.args.names.now c.prune_names.result (g.K.Keeper.told c.prune_names.new.keeper) c.prune_names.ensures
