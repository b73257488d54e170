use Rattle.std.proofs.Common.{[], ◌∙◌, sym}
use Rattle.lar_grammar.specs.Symbols.{one_word}
use Rattle.lar_grammar.proofs.Steps.{when_true}
use Rattle.lar_syntax.proofs.Flow.{moved, word_token_is}
use Rattle.lar_syntax.proofs.parser.cursor.Parser.expect_word.Goals as goal

pub returns-clause-reads : goal.returns-clause-reads
returns-clause-reads c =
    let seen = sym c.sees_word.ensures ∙ c.if-not-sees_word.false in
    let a = c.in_ok-at.ensures.advances in (
      word_token_is c.args.self.now c.advance.new.self c.args.word _ seen a,
      λ ss. moved c.args.self.now c.advance.new.self (one_word c.args.word) [] ss _ (when_true _ _ _ seen) a,
    )
