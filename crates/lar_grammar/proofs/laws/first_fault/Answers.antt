use Rattle.lar_grammar.proofs.Exact.{first_fault}
use Rattle.lar_grammar.proofs.laws.first_fault.Goals as goal

pub returns : goal.returns
returns c = first_fault
