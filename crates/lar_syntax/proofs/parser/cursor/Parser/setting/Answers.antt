use Rattle.std.proofs.Common.{refl, [], ◌∷◌, ◌∙◌, sym}
use Rattle.std.proofs.lemmas.Result.{err_from_is_err_and}
use Rattle.lar_tree.specs.declared.sign.Sign.TheVariants as sign
use Rattle.lar_grammar.specs.Symbols.{one_sign, outer_expr, setting_rest}
use Rattle.lar_syntax.proofs.Flow.{onward}
use Rattle.lar_syntax.proofs.StmtSteps.{sets_value, sets_nothing}
use Rattle.lar_syntax.proofs.parser.cursor.Parser.setting.Goals as goal

pub returns-then-not-sees-clause-reads : goal.returns-then-not-sees-clause-reads
returns-then-not-sees-clause-reads c =
    let p = c.args.self.now in
    (refl, λ ss. sets_nothing p.rest.now p.room ss (sym c.sees.ensures ∙ c.if-not-sees.true))

pub returns-in_err-assign-clause-reads : goal.returns-in_err-assign-clause-reads
returns-in_err-assign-clause-reads c =
    let p = c.args.self.now in
    let x = err_from_is_err_and c.from_residual.result c.from_residual.ensures.1 in
    rw (x.1, x.2) (onward (setting_rest ∷ []) (one_sign sign.Assign ∷ []) (outer_expr ∷ one_sign sign.Semicolon ∷ []) _ p p _ (λ ss. sets_value p.rest.now p.room ss (sym c.sees.ensures ∙ c.if-not-sees.false)) c.in_err-assign.ensures.reads)

pub returns-in_err-value-clause-reads : goal.returns-in_err-value-clause-reads
returns-in_err-value-clause-reads c =
    let p = c.args.self.now in
    let x = err_from_is_err_and c.from_residual-in_err-value.result c.from_residual-in_err-value.ensures.1 in
    rw (x.1, x.2) (onward (setting_rest ∷ []) (outer_expr ∷ []) (one_sign sign.Semicolon ∷ []) _ p c.expect.new.self _
    (λ ss. sets_value p.rest.now p.room ss (sym c.sees.ensures ∙ c.if-not-sees.false) ∙ c.in_ok-assign.ensures.reads.1 (outer_expr ∷ one_sign sign.Semicolon ∷ ss)) c.in_err-value.ensures.reads)
