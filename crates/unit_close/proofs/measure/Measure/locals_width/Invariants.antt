use Rattle.std.proofs.Common.{◌≡◌, map, take}
use Rattle.type_table.specs.Rows.{type_at}
use Rattle.lar_typed.specs.SameType.{list_of}
use Rattle.unit_input.specs.Widths.{cut}
use Rattle.unit_close.specs.Measures.{words_at}
use Rattle.unit_close.proofs.measure.Measure.locals_width.Given as goal

abbrev pub invariant-loop-i : goal.invariant-loop-i
invariant-loop-i l = l.total ≡ cut (words_at l.self.types.now l.self.structs.now l.widths (list_of (map (type_at l.self.types.now) (take l.i l.locals))))
