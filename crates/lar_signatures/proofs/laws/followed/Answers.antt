use Rattle.lar_signatures.proofs.Followed.{as_many, at_most}
use Rattle.lar_signatures.proofs.laws.followed.Goals as goal

pub returns-clause-as_many : goal.returns-clause-as_many
returns-clause-as_many c = as_many

pub returns-clause-at_most : goal.returns-clause-at_most
returns-clause-at_most c = at_most
