use Rattle.coord_core.proofs.Sound.{bounded_by, effect-sound, run-sound, run-spare}
use Rattle.coord_core.proofs.laws.bound.Goals as goal

pub returns-clause-after : goal.returns-clause-after
returns-clause-after c = λ terms es some l. bounded_by terms.lanes _ (run-sound terms es some l)

pub returns-clause-between : goal.returns-clause-between
returns-clause-between c = λ terms es e some l out. bounded_by terms.lanes _ (effect-sound terms.lanes e _ out (run-spare terms es) (run-sound terms es some l))

pub returns-clause-spare : goal.returns-clause-spare
returns-clause-spare c = run-spare
