use Rattle.std.proofs.Common.{[], ◌∷◌, ◌∙◌, Some}
use Rattle.std.proofs.lemmas.Result.{err_from_is_err_and}
use Rattle.lar_grammar.specs.Symbols.{outer_type, one_type, leave}
use Rattle.lar_grammar.proofs.Openings.{opened_type, left_room}
use Rattle.lar_syntax.proofs.Flow.{onward}
use Rattle.lar_syntax.proofs.parser.cursor.Parser.outer_ty.Goals as goal

pub returns-in_err-whole-clause-reads : goal.returns-in_err-whole-clause-reads
returns-in_err-whole-clause-reads c =
    let x = err_from_is_err_and c.from_residual.result c.from_residual.ensures.1 in
    let A = c.args.self.now in
    rw (x.1, x.2) (onward (outer_type ∷ []) (one_type ∷ []) (leave ∷ []) _ A (record A { room = Some 512 }) _ (λ ss. opened_type A.rest.now A.room ss) c.in_err-whole.ensures.reads)

pub returns-clause-reads : goal.returns-clause-reads
returns-clause-reads c =
    let A = c.args.self.now in
    let w = c.in_ok-whole.ensures.reads in
    (w.0, λ ss. opened_type A.rest.now A.room ss ∙ w.1 (leave ∷ ss) ∙ left_room c.ty.new.self.rest.now c.ty.new.self.room ss)
