use Rattle.lar_rules.proofs.Least.{least_is_first}
use Rattle.lar_rules.proofs.laws.least_is_first.Goals as goal

pub returns : goal.returns
returns c = least_is_first
