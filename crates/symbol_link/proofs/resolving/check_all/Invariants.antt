use Rattle.std.proofs.Common.{◌≡◌, drop}
use Rattle.symbol_link.specs.Faults.{undefined_from}
use Rattle.symbol_link.specs.Found.{found}
use Rattle.symbol_link.proofs.resolving.check_all.Given as goal

abbrev pub invariant-loop-number : goal.invariant-loop-number
invariant-loop-number l = undefined_from (found l.definitions) l.number (drop l.number l.objects) ≡ undefined_from (found l.definitions) 0 l.objects
