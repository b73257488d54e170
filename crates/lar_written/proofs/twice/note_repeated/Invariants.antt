use Rattle.std.proofs.Common.{◌≡◌, [], take, drop}
use Rattle.lar_rules.specs.Fault.{least}
use Rattle.lar_rules.specs.Twice.{repeated}
use Rattle.lar_written.specs.Names.{names}
use Rattle.lar_written.proofs.twice.note_repeated.Given as goal

abbrev pub invariant-loop-at : goal.invariant-loop-at
invariant-loop-at l = least l.first (repeated l.file (names (take l.at l.all)) (names (drop l.at l.all))) ≡ least l.fn.first (repeated l.file [] (names l.all))
