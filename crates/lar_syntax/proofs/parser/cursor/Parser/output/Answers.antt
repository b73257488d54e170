use Rattle.std.proofs.Common.{[], ◌∷◌, ◌∙◌, sym, ap}
use Rattle.lar_tree.specs.declared.sign.Sign.TheVariants as sign
use Rattle.lar_tree.specs.Spelling.{sign_token}
use Rattle.lar_grammar.specs.Symbols.{output, outer_type}
use Rattle.lar_grammar.proofs.Steps.{when_true}
use Rattle.lar_syntax.proofs.Flow.{moved, sign_token_is}
use Rattle.lar_syntax.proofs.parser.cursor.Parser.output.Goals as goal

pub returns-clause-reads : goal.returns-clause-reads
returns-clause-reads c =
    let seen = sym c.sees.ensures ∙ c.if-not-sees.false in
    let A = c.args.self.now in
    let q = c.advance.new.self in
    let a = c.in_ok-arrow.ensures.advances in
    let t = c.in_ok-ty.ensures.reads in (
      sign_token_is A q sign.Arrow _ seen a ∙ ap (λ x. sign_token sign.Arrow c.in_ok-arrow.arrow ∷ x) t.0,
      λ ss. moved A q output (outer_type ∷ []) ss _ (when_true _ _ _ seen) a ∙ t.1 ss,
    )
