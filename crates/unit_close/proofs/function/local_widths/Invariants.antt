use Rattle.std.proofs.Common.{◌≡◌, map, take}
use Rattle.unit_close.specs.Sight.{sight}
use Rattle.unit_close.specs.Made.{width_at}
use Rattle.unit_close.proofs.function.local_widths.Given as goal

abbrev pub invariant-loop-local : goal.invariant-loop-local
invariant-loop-local l = l.widths ≡ map (width_at (sight l.around)) (take l.local-index l.locals)
