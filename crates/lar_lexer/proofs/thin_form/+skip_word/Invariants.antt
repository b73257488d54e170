use Rattle.std.proofs.Common.{length}
use Rattle.lar_lexer.proofs.thin_form.+skip_word.Given as goal

abbrev pub decreases-skip_word : goal.decreases-skip_word
decreases-skip_word l = length l.word.now
