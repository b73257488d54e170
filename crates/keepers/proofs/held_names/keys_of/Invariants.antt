use Rattle.std.proofs.Common.{◌≡◌, ◌++◌}
use Rattle.std.specs.BTreeMap as tree
use Rattle.keepers.specs.KeeperNoted.{bytes_of_all}
use Rattle.keepers.proofs.held_names.keys_of.Given as goal

abbrev pub invariant-loop-name : goal.invariant-loop-name
invariant-loop-name l = bytes_of_all l.keys.items ++ bytes_of_all l.name-iterator ≡ bytes_of_all (tree.keys l.names)
