use Rattle.std.proofs.Common.{◌≡◌, ◌≤◌, ◌<◌, ◌^◌, length}
use Rattle.lar_lexer.specs.Reading.{digits_at}
use Rattle.lar_lexer.proofs.thin_form.read_number.Given as goal

abbrev pub invariant-loop-rest : goal.invariant-loop-rest
invariant-loop-rest l = record {
  told : digits_at l.number l.rest ≡ digits_at 0 l.bytes;
  small : l.number < 2 ^ 63;
  front : length l.rest ≤ length l.bytes;
}

abbrev pub decreases-loop-rest : goal.decreases-loop-rest
decreases-loop-rest l = length l.rest
