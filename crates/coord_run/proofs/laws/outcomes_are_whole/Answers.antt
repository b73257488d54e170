use Rattle.coord_run.specs.Outcomes.{outcomes_of, outcome_at}
use Rattle.coord_run.proofs.TallyLemmas.{all-made-ended}
use Rattle.coord_run.proofs.WholeLemmas.{first-told, defined, made-as}
use Rattle.coord_run.proofs.laws.outcomes_are_whole.Goals as goal

pub returns-clause-defined : goal.returns-clause-defined
returns-clause-defined g c m keep events outcomes a x = defined m x (outcomes_of x events) (outcome_at outcomes x) (a.tells x)

pub returns-clause-one_fault : goal.returns-clause-one_fault
returns-clause-one_fault g c m keep events outcomes one a x = made-as m one x (outcome_at outcomes x) (defined m x (outcomes_of x events) (outcome_at outcomes x) (a.tells x))

pub returns-clause-first : goal.returns-clause-first
returns-clause-first g c m keep events outcomes a = first-told m keep events outcomes a

pub returns-clause-counted : goal.returns-clause-counted
returns-clause-counted g c m keep terms events outcomes a all = all-made-ended m keep terms events outcomes a all
