use Rattle.std.proofs.Common.{map}
use Rattle.cgu_merge.specs.Ranked.{shown}
use Rattle.cgu_merge.proofs.Placing.{Loading}
use Rattle.cgu_merge.proofs.units.first_units.Given as goal

abbrev pub invariant-loop-place : goal.invariant-loop-place
invariant-loop-place l = Loading l.sizes l.place (map shown l.units.entries)
