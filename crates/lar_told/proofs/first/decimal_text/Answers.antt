use Rattle.std.proofs.Common.{sym, subst, rules, arith}
use Rattle.std.specs.Str.{IsAscii}
use Rattle.std.proofs.lemmas.Fmt.{IsAscii-decimal}
use Rattle.lar_told.proofs.first.decimal_text.Goals as goal

pub from_string-requires : goal.from_string-requires
from_string-requires c = subst IsAscii (sym c.in_ok-format.ensures.ok) (IsAscii-decimal c.args.n c.ranges.n.fits)
