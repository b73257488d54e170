use Rattle.graph_laws.proofs.Placing.{can_be_placed}
use Rattle.graph_laws.proofs.laws.placing.Goals as goal

pub returns : goal.returns
returns c = λ tree graph typed table small g. can_be_placed tree typed table small graph g
