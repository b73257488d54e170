use Rattle.std.proofs.Common.{◌∷◌, ◌∙◌}
use Rattle.lar_tree.specs.declared.sign.Sign.TheVariants as sign
use Rattle.lar_grammar.specs.Symbols.{one_sign, listed, field_member, output, one_block}
use Rattle.lar_syntax.proofs.ItemTokens.{fn_spells}
use Rattle.lar_syntax.proofs.parser.cursor.Parser.fn_rest.Goals as goal

pub returns-clause-reads : goal.returns-clause-reads
returns-clause-reads c =
    let g = c.in_ok-generics.ensures.reads in
    let f = c.in_ok-open.ensures.reads in
    let p = c.in_ok-params.ensures.reads in
    let t = c.in_ok-close.ensures.reads in
    let o = c.in_ok-output.ensures.reads in
    let b = c.in_ok-body.ensures.reads in (
      fn_spells c.args.attributes c.args.keyword c.in_ok-open.open c.in_ok-close.close c.args.name c.in_ok-generics.generics c.in_ok-params.params c.in_ok-output.output c.in_ok-body.body _ _ _ _ _ _ _ g.0 f.0 p.0 t.0 o.0 b.0,
      λ ss. g.1 (one_sign sign.OpenParen ∷ listed field_member 15 sign.CloseParen ∷ one_sign sign.CloseParen ∷ output ∷ one_block c.args.levels ∷ ss)
          ∙ f.1 (listed field_member 15 sign.CloseParen ∷ one_sign sign.CloseParen ∷ output ∷ one_block c.args.levels ∷ ss)
          ∙ p.1 (one_sign sign.CloseParen ∷ output ∷ one_block c.args.levels ∷ ss) ∙ t.1 (output ∷ one_block c.args.levels ∷ ss) ∙ o.1 (one_block c.args.levels ∷ ss) ∙ b.1 ss,
    )
