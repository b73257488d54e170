use Rattle.std.proofs.Common.{[], ◌∷◌, ◌∙◌, sym}
use Rattle.std.proofs.lemmas.Result.{err_from_is_err_and}
use Rattle.lar_tree.specs.declared.sign.Sign.TheVariants as sign
use Rattle.lar_grammar.specs.Symbols.{one_sign, outer_expr, return_rest}
use Rattle.lar_syntax.proofs.Flow.{onward}
use Rattle.lar_syntax.proofs.StmtSteps.{returns_value}
use Rattle.lar_syntax.proofs.parser.cursor.Parser.returned.Goals as goal

pub returns-in_err-value-clause-reads : goal.returns-in_err-value-clause-reads
returns-in_err-value-clause-reads c =
    let p = c.args.self.now in
    let x = err_from_is_err_and c.from_residual.result c.from_residual.ensures.1 in
    rw (x.1, x.2) (onward (return_rest ∷ []) (outer_expr ∷ []) (one_sign sign.Semicolon ∷ []) _ p p _ (λ ss. returns_value p.rest.now p.room ss (sym c.sees.ensures ∙ c.if-sees.false)) c.in_err-value.ensures.reads)

pub returns-clause-reads : goal.returns-clause-reads
returns-clause-reads c =
    let p = c.args.self.now in
    let v = c.in_ok-value.ensures.reads in
    (v.0, λ ss. returns_value p.rest.now p.room ss (sym c.sees.ensures ∙ c.if-sees.false) ∙ v.1 (one_sign sign.Semicolon ∷ ss))
