use Rattle.lar_written.proofs.Standings.{tuple_stands}
use Rattle.lar_written.proofs.number.tupled.Goals as goal

pub returns-in_ok-intern-in-Some-clause-of : goal.returns-in_ok-intern-in-Some-clause-of
returns-in_ok-intern-in-Some-clause-of c =
    tuple_stands c.args.types.now c.intern.new.self c.args.parts c.in-Some.parts _ c.in-Some.is c.in_ok-intern-in-Some.ensures.number
