use Rattle.std.proofs.Common.{◌≡◌, drop}
use Rattle.symbol_link.specs.Faults.{undefined_in}
use Rattle.symbol_link.specs.Found.{found}
use Rattle.symbol_link.proofs.resolving.check_externals.Given as goal

abbrev pub invariant-loop-external : goal.invariant-loop-external
invariant-loop-external l = undefined_in (found l.definitions) l.object (drop l.external-index l.externals) ≡ undefined_in (found l.definitions) l.object l.externals
