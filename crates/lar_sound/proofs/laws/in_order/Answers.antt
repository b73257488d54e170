use Rattle.lar_sound.proofs.InOrder.{program_known}
use Rattle.lar_sound.proofs.laws.in_order.Goals as goal

pub returns : goal.returns
returns c = program_known
