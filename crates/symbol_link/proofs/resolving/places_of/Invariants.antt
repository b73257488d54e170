use Rattle.std.proofs.Common.{◌≡◌, take}
use Rattle.symbol_link.specs.Found.{found}
use Rattle.symbol_link.specs.Linked.{places_of}
use Rattle.symbol_link.proofs.resolving.places_of.Given as goal

abbrev pub invariant-loop-external : goal.invariant-loop-external
invariant-loop-external l = l.places.items ≡ places_of (found l.definitions) (take l.external-index l.externals)
