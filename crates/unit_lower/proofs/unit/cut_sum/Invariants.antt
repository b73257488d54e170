use Rattle.std.proofs.Common.{◌≡◌, take}
use Rattle.std.specs.Prelude.{sum}
use Rattle.unit_input.specs.Widths.{cut}
use Rattle.unit_lower.proofs.unit.cut_sum.Given as goal

abbrev pub invariant-loop-width : goal.invariant-loop-width
invariant-loop-width l = l.total ≡ cut (sum (take l.width-index l.list))
