use Rattle.std.proofs.Common.{[], ◌∷◌, ◌∙◌, Some}
use Rattle.std.proofs.lemmas.Result.{err_from_is_err_and}
use Rattle.lar_grammar.specs.Symbols.{outer_expr, level, leave}
use Rattle.lar_grammar.proofs.Openings.{opened_expr, left_room}
use Rattle.lar_syntax.proofs.Flow.{onward}
use Rattle.lar_syntax.proofs.parser.cursor.Parser.outer_expr.Goals as goal

pub returns-in_err-whole-clause-reads : goal.returns-in_err-whole-clause-reads
returns-in_err-whole-clause-reads c =
    let x = err_from_is_err_and c.from_residual.result c.from_residual.ensures.1 in
    let A = c.args.self.now in
    rw (x.1, x.2) (onward (outer_expr ∷ []) (level 6 ∷ []) (leave ∷ []) _ A (record A { room = Some 512 }) _ (λ ss. opened_expr A.rest.now A.room ss) c.in_err-whole.ensures.reads)

pub returns-clause-reads : goal.returns-clause-reads
returns-clause-reads c =
    let A = c.args.self.now in (
      c.in_ok-whole.ensures.reads.0,
      λ ss. opened_expr A.rest.now A.room ss ∙ c.in_ok-whole.ensures.reads.1 (leave ∷ ss) ∙ left_room c.climb.new.self.rest.now c.climb.new.self.room ss,
    )
