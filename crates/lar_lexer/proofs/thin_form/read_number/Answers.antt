use Rattle.std.proofs.Common.{rules}
use Rattle.lar_lexer.proofs.Digits.{past}
use Rattle.lar_lexer.proofs.thin_form.read_number.Goals as goal

pub returns-then-number-digit : goal.returns-then-number-digit
returns-then-number-digit c =
    past c.loop-rest.number c.loop-rest.rest.now c.args.bytes.now c.in-48-to-57.len_at_least (search rules) (search rules) c.if-number-digit.true c.loop-rest.invariant.told
