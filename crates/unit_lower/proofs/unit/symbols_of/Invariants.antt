use Rattle.std.proofs.Common.{◌≡◌, map, take}
use Rattle.unit_lower.proofs.unit.symbols_of.Given as goal

abbrev pub invariant-loop-external : goal.invariant-loop-external
invariant-loop-external l = l.symbols.items ≡ map (λ e. e.symbol) (take l.external-index l.externals)
