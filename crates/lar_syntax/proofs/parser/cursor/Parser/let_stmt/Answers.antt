use Rattle.std.proofs.Common.{[], ◌∷◌, ◌++◌, ◌∙◌, sym, ap}
use Rattle.lar_tree.specs.declared.keyword.Keyword.TheVariants as keyword
use Rattle.lar_tree.specs.declared.sign.Sign.TheVariants as sign
use Rattle.lar_tree.specs.Spelling.{sign_token, word_token, name_token}
use Rattle.lar_tree.specs.Stmts.{flat_stmt}
use Rattle.lar_grammar.specs.Symbols.{one_sign, outer_type, outer_expr}
use Rattle.lar_grammar.specs.Moves.{let_rest}
use Rattle.lar_syntax.specs.Reads.{expr_tokens}
use Rattle.lar_syntax.proofs.Flow.{ends_with}
use Rattle.lar_syntax.proofs.parser.cursor.Parser.let_stmt.Goals as goal

pub returns-clause-reads : goal.returns-clause-reads
returns-clause-reads c =
    let end = c.expect-3.new.self.rest.now in
    let k = c.in_ok-keyword.ensures.reads in
    let n = c.in_ok-name.ensures.reads in
    let i = c.in_ok-colon.ensures.reads in
    let t = c.in_ok-ty.ensures.reads in
    let a = c.in_ok-assign.ensures.reads in
    let v = c.in_ok-value.ensures.reads in
    let s = c.in_ok-semicolon.ensures.reads in
    let set = sign_token sign.Assign c.in_ok-assign.assign in
    let tail = expr_tokens c.in_ok-value.value ++ sign_token sign.Semicolon c.in_ok-semicolon.semicolon ∷ [] in (
      k.0 ∙ ap (λ x. word_token keyword.Let c.in_ok-keyword.keyword ∷ x)
          (n.0 ∙ ap (λ x. name_token c.in_ok-name.name ∷ x)
          (i.0 ∙ ap (λ x. sign_token sign.Colon c.in_ok-colon.colon ∷ x)
          (ends_with _ _ end _ (set ∷ tail) t.0 (a.0 ∙ ap (λ x. set ∷ x) (ends_with _ _ _ _ _ v.0 s.0)))))
          ∙ ap (λ l. flat_stmt l ++ end) (sym c.in_ok-stmt.ensures),
      λ ss. k.1 (let_rest ++ ss) ∙ n.1 (one_sign sign.Colon ∷ outer_type ∷ one_sign sign.Assign ∷ outer_expr ∷ one_sign sign.Semicolon ∷ ss)
          ∙ i.1 (outer_type ∷ one_sign sign.Assign ∷ outer_expr ∷ one_sign sign.Semicolon ∷ ss) ∙ t.1 (one_sign sign.Assign ∷ outer_expr ∷ one_sign sign.Semicolon ∷ ss)
          ∙ a.1 (outer_expr ∷ one_sign sign.Semicolon ∷ ss) ∙ v.1 (one_sign sign.Semicolon ∷ ss) ∙ s.1 ss,
    )
