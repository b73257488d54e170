use Rattle.coord_core.proofs.Hand.{in_hand_at}
use Rattle.coord_core.proofs.laws.hand.Goals as goal

pub returns : goal.returns
returns c = in_hand_at
