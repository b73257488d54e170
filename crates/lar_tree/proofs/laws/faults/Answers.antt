use Rattle.lar_tree.proofs.Faults.{begins-front, no_fault, one_fault}
use Rattle.lar_tree.proofs.laws.faults.Goals as goal

pub returns-clause-front : goal.returns-clause-front
returns-clause-front c = begins-front

pub returns-clause-none : goal.returns-clause-none
returns-clause-none c = no_fault

pub returns-clause-one : goal.returns-clause-one
returns-clause-one c = one_fault
