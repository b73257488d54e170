use Rattle.std.proofs.Common.{◌∷◌, ◌∙◌}
use Rattle.lar_tree.specs.declared.sign.Sign.TheVariants as sign
use Rattle.lar_grammar.specs.Symbols.{one_sign, angle, listed, name_member, field_member}
use Rattle.lar_syntax.proofs.ItemTokens.{struct_spells}
use Rattle.lar_syntax.proofs.parser.cursor.Parser.struct_rest.Goals as goal

pub returns-clause-reads : goal.returns-clause-reads
returns-clause-reads c =
    let n = c.in_ok-name.ensures.reads in
    let g = c.in_ok-generics.ensures.reads in
    let o = c.in_ok-open.ensures.reads in
    let f = c.in_ok-fields.ensures.reads in
    let e = c.in_ok-close.ensures.reads in (
      struct_spells c.args.keyword c.in_ok-open.open c.in_ok-close.close c.in_ok-name.name c.in_ok-generics.generics c.in_ok-fields.fields _ _ _ _ _ _ n.0 g.0 o.0 f.0 e.0,
      λ ss. n.1 (angle name_member ∷ one_sign sign.OpenBrace ∷ listed field_member 63 sign.CloseBrace ∷ one_sign sign.CloseBrace ∷ ss)
          ∙ g.1 (one_sign sign.OpenBrace ∷ listed field_member 63 sign.CloseBrace ∷ one_sign sign.CloseBrace ∷ ss)
          ∙ o.1 (listed field_member 63 sign.CloseBrace ∷ one_sign sign.CloseBrace ∷ ss) ∙ f.1 (one_sign sign.CloseBrace ∷ ss) ∙ e.1 ss,
    )
