use Rattle.lar_written.proofs.Standings.{more_stands}
use Rattle.lar_written.proofs.number.longer.Goals as goal

pub returns-in_ok-intern-in-Some-others-clause-of : goal.returns-in_ok-intern-in-Some-others-clause-of
returns-in_ok-intern-in-Some-others-clause-of c =
    more_stands c.args.types.now c.intern.new.self c.args.first c.args.others c.in-Some.first c.in-Some-others.others _ c.in-Some.is c.in-Some-others.is c.in_ok-intern-in-Some-others.ensures.number
