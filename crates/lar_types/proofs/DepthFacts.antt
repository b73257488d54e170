-- The depths of all structs, in the words of signatures.
use Rattle.std.proofs.Common.{◌≡◌, ℕ, List, map}
use Rattle.lar_rules.specs.Declared.{Declared}
use Rattle.lar_rules.specs.Structs.{followers, max_chain}
use Rattle.lar_rules.specs.Faults.{none_yet}
use Rattle.lar_sound.specs.InOrder.{structs_from}
use Rattle.lar_depths.specs.Depths.{depths}

pub depths_are : (all : List Declared) (ns : List ℕ) → ns ≡ depths all → ns ≡ map (followers all max_chain) (structs_from none_yet all)
unfolding depths
depths_are all ns e = e
