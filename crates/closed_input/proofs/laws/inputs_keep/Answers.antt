use Rattle.closed_input.proofs.Kept.{kept}
use Rattle.closed_input.proofs.laws.inputs_keep.Goals as goal

pub returns : goal.returns
returns c = kept
