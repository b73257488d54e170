use Rattle.std.proofs.Common.{[], ◌∙◌, sym}
use Rattle.lar_grammar.specs.Symbols.{one_sign}
use Rattle.lar_grammar.proofs.Steps.{when_true}
use Rattle.lar_syntax.proofs.Flow.{moved, sign_token_is}
use Rattle.lar_syntax.proofs.parser.cursor.Parser.expect.Goals as goal

pub returns-clause-reads : goal.returns-clause-reads
returns-clause-reads c =
    let seen = sym c.sees.ensures ∙ c.if-not-sees.false in
    let a = c.in_ok-at.ensures.advances in (
      sign_token_is c.args.self.now c.advance.new.self c.args.sign _ seen a,
      λ ss. moved c.args.self.now c.advance.new.self (one_sign c.args.sign) [] ss _ (when_true _ _ _ seen) a,
    )
