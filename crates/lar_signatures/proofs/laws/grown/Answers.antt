use Rattle.lar_signatures.proofs.Grown.{signatures_grown}
use Rattle.lar_signatures.proofs.laws.grown.Goals as goal

pub returns : goal.returns
returns c = signatures_grown
