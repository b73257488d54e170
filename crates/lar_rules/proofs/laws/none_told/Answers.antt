use Rattle.lar_rules.proofs.Least.{none_is_none}
use Rattle.lar_rules.proofs.laws.none_told.Goals as goal

pub returns : goal.returns
returns c = none_is_none
