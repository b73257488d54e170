use Rattle.std.proofs.Common.{◌≡◌, take}
use Rattle.std.specs.List.{filter}
use Rattle.keepers.specs.KeeperNoted.{bytes_of_all}
use Rattle.work_products.specs.Pruning.{gone, is_unwanted}
use Rattle.work_products.proofs.pruning.remove_all.Given as goal

abbrev pub invariant-loop-name : goal.invariant-loop-name
invariant-loop-name g l =
    let told = g.K.Keeper.told in
    told l.keeper ≡ gone (filter (is_unwanted l.wanted) (bytes_of_all (take l.name-index l.listed))) (told l.initial.keeper)
