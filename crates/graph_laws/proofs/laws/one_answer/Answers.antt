use Rattle.graph_laws.proofs.OneAnswer.{one_all, one_refused, not_both}
use Rattle.graph_laws.proofs.laws.one_answer.Goals as goal

pub returns : goal.returns
returns c = record { all = one_all; refused = one_refused; apart = not_both }
