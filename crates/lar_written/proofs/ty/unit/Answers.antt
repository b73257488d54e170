use Rattle.lar_written.proofs.Standings.{unit_stands}
use Rattle.lar_written.proofs.ty.unit.Goals as goal

pub returns-clause-of : goal.returns-clause-of
returns-clause-of c = unit_stands c.intern.new.self c.intern-2.new.self c.in_ok-none.none c.in_ok-intern.field-0 c.in_ok-none.ensures.number c.in_ok-intern.ensures.number
