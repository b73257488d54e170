use Rattle.symbol_link.specs.Found.{found}
use Rattle.symbol_link.proofs.Defined.{DefinedSoFar}
use Rattle.symbol_link.proofs.defining.define_functions.Given as goal

abbrev pub invariant-loop-k : goal.invariant-loop-k
invariant-loop-k l = DefinedSoFar (found l.initial.definitions) (found l.definitions) l.functions l.k l.object l.start
