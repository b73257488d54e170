use Rattle.std.proofs.Common.{◌≡◌, ◌++◌, drop}
use Rattle.std.specs.List.{flat_map}
use Rattle.unit_input.specs.Spelling.{two}
use Rattle.unit_input.proofs.spelling.put_widths.Given as goal

abbrev pub invariant-loop-width : goal.invariant-loop-width
invariant-loop-width l = l.out.items ++ flat_map two (drop l.width-index l.widths) ≡ l.initial.out.items ++ flat_map two l.widths
