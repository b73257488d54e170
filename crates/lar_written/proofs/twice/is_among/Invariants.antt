use Rattle.std.proofs.Common.{◌≡◌, drop}
use Rattle.lar_rules.specs.Twice.{is_among}
use Rattle.lar_written.specs.Names.{names}
use Rattle.lar_written.proofs.twice.is_among.Given as goal

abbrev pub invariant-loop-name : goal.invariant-loop-name
invariant-loop-name l = is_among (names (drop l.name-index l.earlier)) l.text ≡ is_among (names l.earlier) l.text
