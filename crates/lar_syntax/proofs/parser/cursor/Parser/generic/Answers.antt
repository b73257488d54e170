use Rattle.std.proofs.Common.{[], ◌∷◌, ◌∙◌, sym}
use Rattle.std.proofs.lemmas.Result.{err_from_is_err_and}
use Rattle.lar_tree.specs.declared.keyword.Keyword.TheVariants as keyword
use Rattle.lar_tree.specs.declared.sign.Sign.TheVariants as sign
use Rattle.lar_grammar.specs.Symbols.{one_sign, one_word, one_name, member, generic_member}
use Rattle.lar_syntax.proofs.Flow.{onward}
use Rattle.lar_syntax.proofs.ItemSteps.{generic_const, generic_named}
use Rattle.lar_syntax.proofs.parser.cursor.Parser.generic.Goals as goal

pub returns-in_err-made-clause-reads : goal.returns-in_err-made-clause-reads
returns-in_err-made-clause-reads c =
    let x = err_from_is_err_and c.from_residual.result c.from_residual.ensures.1 in
    let A = c.args.self.now in
    rw (x.1, x.2) (onward (member generic_member ∷ []) (one_word keyword.Const ∷ one_name ∷ one_sign sign.Colon ∷ one_word keyword.I64 ∷ []) [] _ A A _ (λ ss. generic_const A ss (sym c.sees_word.ensures ∙ c.if-sees_word.true)) c.in_err-made.ensures.reads)

pub returns-in_err-name-clause-reads : goal.returns-in_err-name-clause-reads
returns-in_err-name-clause-reads c =
    let x = err_from_is_err_and c.from_residual-in_err-name.result c.from_residual-in_err-name.ensures.1 in
    let A = c.args.self.now in
    rw (x.1, x.2) (onward (member generic_member ∷ []) (one_name ∷ []) [] _ A A _ (λ ss. generic_named A ss (sym c.sees_word.ensures ∙ c.if-sees_word.false)) c.in_err-name.ensures.reads)
