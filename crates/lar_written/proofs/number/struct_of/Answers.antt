use Rattle.lar_written.proofs.Standings.{struct_stands}
use Rattle.lar_written.proofs.number.struct_of.Goals as goal

pub returns-in_ok-intern-in-Some-clause-of : goal.returns-in_ok-intern-in-Some-clause-of
returns-in_ok-intern-in-Some-clause-of c =
    struct_stands c.args.types.now c.intern.new.self c.args.generics c.args.number c.in-Some.generics _ c.in-Some.is c.in_ok-intern-in-Some.ensures.number
