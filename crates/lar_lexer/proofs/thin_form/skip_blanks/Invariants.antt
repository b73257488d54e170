use Rattle.std.proofs.Common.{◌≡◌, length}
use Rattle.lar_lexer.specs.Reading.{after_blanks}
use Rattle.lar_lexer.proofs.thin_form.skip_blanks.Given as goal

abbrev pub invariant-loop-rest : goal.invariant-loop-rest
invariant-loop-rest l = after_blanks l.rest ≡ after_blanks l.bytes

abbrev pub decreases-loop-rest : goal.decreases-loop-rest
decreases-loop-rest l = length l.rest
