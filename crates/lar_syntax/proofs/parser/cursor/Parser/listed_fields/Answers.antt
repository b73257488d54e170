use Rattle.std.proofs.Common.{[], ◌∷◌, ◌∙◌, sym}
use Rattle.std.proofs.lemmas.Result.{err_from_is_err_and}
use Rattle.lar_grammar.specs.Symbols.{listed, member, more, field_member}
use Rattle.lar_grammar.proofs.Openings.{listed_opens}
use Rattle.lar_syntax.proofs.Flow.{onward}
use Rattle.lar_syntax.proofs.parser.cursor.Parser.listed_fields.Goals as goal

pub returns-in_err-list-clause-reads : goal.returns-in_err-list-clause-reads
returns-in_err-list-clause-reads c =
    let x = err_from_is_err_and c.from_residual.result c.from_residual.ensures.1 in
    let A = c.args.self.now in
    rw (x.1, x.2) (onward (listed field_member c.args.most c.args.close ∷ []) (member field_member ∷ more field_member c.args.most ∷ []) [] _ A A _ (λ ss. listed_opens A.rest.now A.room field_member c.args.most c.args.close ss (sym c.sees.ensures ∙ c.if-sees.false)) c.in_err-list.ensures.reads)
