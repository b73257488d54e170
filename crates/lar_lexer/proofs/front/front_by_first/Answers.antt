use Rattle.std.proofs.Common.{subst, sym, take}
use Rattle.std.specs.Str.{IsAscii}
use Rattle.lar_lexer.proofs.Runs.{word_is_ascii}
use Rattle.lar_lexer.proofs.front.front_by_first.Goals as goal

pub word-requires : goal.word-requires
word-requires c = subst (λ n. IsAscii (take n c.args.text.now)) (sym c.word_len.ensures.value) (word_is_ascii c.args.text.now)
