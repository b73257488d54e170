use Rattle.std.proofs.Common.{◌≡◌, ◌-◌, ◌≤◌, length}
use Rattle.lar_lexer.specs.Reading.{prints_at}
use Rattle.lar_lexer.proofs.OneByOne.{with_front}
use Rattle.lar_lexer.proofs.thin_form.read_prints.Given as goal

abbrev pub invariant-loop : goal.invariant-loop
invariant-loop l = record {
  told : with_front l.numbers.items (prints_at (1000 - l.counter) l.rest) ≡ prints_at 1000 l.bytes;
  count : length l.numbers.items ≤ l.counter;
}
