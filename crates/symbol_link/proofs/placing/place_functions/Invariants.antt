use Rattle.std.proofs.Common.{◌≡◌, ◌++◌, take}
use Rattle.std.specs.Prelude.{map}
use Rattle.symbol_link.specs.Callees.{place_by}
use Rattle.symbol_link.specs.Linked.{placed}
use Rattle.symbol_link.proofs.placing.place_functions.Given as goal

abbrev pub invariant-loop-function : goal.invariant-loop-function
invariant-loop-function l = l.image ≡ l.initial.image ++ map (placed (place_by l.callees)) (take l.function-index l.functions)
