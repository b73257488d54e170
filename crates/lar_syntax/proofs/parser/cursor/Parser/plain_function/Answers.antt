use Rattle.std.proofs.Common.{[], ◌∷◌, ◌++◌, ◌∙◌, sym, ap, append_assoc}
use Rattle.lar_tree.specs.declared.keyword.Keyword.TheVariants as keyword
use Rattle.lar_tree.specs.Spelling.{word_token, name_token}
use Rattle.lar_tree.specs.Items.{flat_attributes, flat_item}
use Rattle.lar_grammar.specs.Symbols.{one_name}
use Rattle.lar_syntax.specs.ReadsItems.{signature}
use Rattle.lar_syntax.proofs.parser.cursor.Parser.plain_function.Goals as goal

pub returns-clause-reads : goal.returns-clause-reads
returns-clause-reads c =
    let n = c.args.levels in
    let k = c.in_ok-keyword.ensures.reads in
    let m = c.in_ok-name.ensures.reads in
    let r = c.in_ok-made.ensures.reads in (
      ap (λ x. flat_attributes c.args.attributes ++ x) (k.0 ∙ ap (λ x. word_token keyword.Fn c.in_ok-keyword.keyword ∷ x) m.0)
          ∙ sym (append_assoc (flat_attributes c.args.attributes) (word_token keyword.Fn c.in_ok-keyword.keyword ∷ name_token c.in_ok-name.name ∷ []) c.name.new.self.rest.now)
          ∙ r.0 ∙ ap (λ v. flat_item v ++ c.fn_rest.new.self.rest.now) (sym c.fn_item.ensures),
      λ ss. k.1 (one_name ∷ (signature n ++ ss)) ∙ m.1 (signature n ++ ss) ∙ r.1 ss,
    )
