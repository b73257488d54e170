use Rattle.std.proofs.Common.{[], ◌∷◌, ◌∙◌, sym, ap}
use Rattle.lar_tree.specs.declared.sign.Sign.TheVariants as sign
use Rattle.lar_tree.specs.Spelling.{sign_token}
use Rattle.lar_tree.specs.Commas.{flat_commas}
use Rattle.lar_tree.specs.Items.{flat_generic}
use Rattle.lar_grammar.specs.Symbols.{one_sign, angle, generic_member}
use Rattle.lar_grammar.specs.Moves.{angle_rest}
use Rattle.lar_grammar.proofs.Steps.{when_true}
use Rattle.lar_syntax.proofs.Flow.{moved, sign_token_is, ends_with}
use Rattle.lar_syntax.proofs.parser.cursor.Parser.angled_generics.Goals as goal

pub returns-clause-reads : goal.returns-clause-reads
returns-clause-reads c =
    let seen = sym c.sees.ensures ∙ c.if-not-sees.false in
    let A = c.args.self.now in
    let q = c.advance.new.self in
    let a = c.in_ok-open.ensures.advances in
    let l = c.in_ok-list.ensures.reads in
    let e = c.in_ok-close.ensures.reads in (
      sign_token_is A q sign.Less _ seen a
          ∙ ap (λ x. sign_token sign.Less c.in_ok-open.open ∷ x) (ends_with q.rest.now c.generics.new.self.rest.now c.expect.new.self.rest.now (flat_commas flat_generic c.in_ok-list.list) (sign_token sign.Greater c.in_ok-close.close ∷ []) l.0 e.0),
      λ ss. moved A q (angle generic_member) (angle_rest generic_member) ss _ (when_true _ _ _ seen) a ∙ l.1 (one_sign sign.Greater ∷ ss) ∙ e.1 ss,
    )
