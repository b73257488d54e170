use Rattle.std.proofs.lemmas.Result.{IfOk-weaker}
use Rattle.lar_stmts.proofs.Returning.{unit_stands}
use Rattle.lar_stmts.proofs.outcome.unit_type.Goals as goal

pub returns-clause-number : goal.returns-clause-number
returns-clause-number c =
    IfOk-weaker c.intern-2.result _ _ (λ n h. unit_stands c.intern.new.self c.intern-2.new.self c.in_ok-none.none n c.in_ok-none.ensures.number h) c.intern-2.ensures.number
