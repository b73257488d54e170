use Rattle.std.proofs.Common.{◌≡◌, ℕ, List, take}
use Rattle.object_format.specs.ObjectReading.{is_among}
use Rattle.work_products.specs.Pruning.{has_text}
use Rattle.work_products.proofs.pruning.set_of.Given as goal

abbrev pub invariant-loop-name : goal.invariant-loop-name
invariant-loop-name l = (q : List ℕ) → has_text l.set q ≡ is_among (take l.name-index l.names) q
