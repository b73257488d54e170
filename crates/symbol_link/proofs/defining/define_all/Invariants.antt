use Rattle.symbol_link.specs.Found.{found}
use Rattle.symbol_link.proofs.Places.{DefinedObjects}
use Rattle.symbol_link.proofs.defining.define_all.Given as goal

abbrev pub invariant-loop-number : goal.invariant-loop-number
invariant-loop-number l = DefinedObjects l.objects (found l.definitions) l.number l.start
