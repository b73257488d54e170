use Rattle.std.proofs.Common.{[], ◌∷◌, ◌∙◌, ap}
use Rattle.lar_tree.specs.declared.keyword.Keyword.TheVariants as keyword
use Rattle.lar_tree.specs.declared.sign.Sign.TheVariants as sign
use Rattle.lar_tree.specs.Spelling.{sign_token, word_token, name_token, flat_signed}
use Rattle.lar_grammar.specs.Symbols.{one_sign, one_word, signed_number}
use Rattle.lar_syntax.proofs.Flow.{ends_with}
use Rattle.lar_syntax.proofs.parser.cursor.Parser.const_rest.Goals as goal

pub returns-clause-reads : goal.returns-clause-reads
returns-clause-reads c =
    let n = c.in_ok-name.ensures.reads in
    let o = c.in_ok-colon.ensures.reads in
    let i = c.in_ok-int.ensures.reads in
    let s = c.in_ok-assign.ensures.reads in
    let v = c.in_ok-value.ensures.reads in
    let e = c.in_ok-semicolon.ensures.reads in (
      ap (λ x. word_token keyword.Const c.args.keyword ∷ x)
          (n.0 ∙ ap (λ x. name_token c.in_ok-name.name ∷ x)
          (o.0 ∙ ap (λ x. sign_token sign.Colon c.in_ok-colon.colon ∷ x)
          (i.0 ∙ ap (λ x. word_token keyword.I64 c.in_ok-int.int ∷ x)
          (s.0 ∙ ap (λ x. sign_token sign.Assign c.in_ok-assign.assign ∷ x)
          (ends_with _ _ _ (flat_signed c.in_ok-value.value) (sign_token sign.Semicolon c.in_ok-semicolon.semicolon ∷ []) v.0 e.0))))),
      λ ss. n.1 (one_sign sign.Colon ∷ one_word keyword.I64 ∷ one_sign sign.Assign ∷ signed_number ∷ one_sign sign.Semicolon ∷ ss)
          ∙ o.1 (one_word keyword.I64 ∷ one_sign sign.Assign ∷ signed_number ∷ one_sign sign.Semicolon ∷ ss) ∙ i.1 (one_sign sign.Assign ∷ signed_number ∷ one_sign sign.Semicolon ∷ ss)
          ∙ s.1 (signed_number ∷ one_sign sign.Semicolon ∷ ss) ∙ v.1 (one_sign sign.Semicolon ∷ ss) ∙ e.1 ss,
    )
