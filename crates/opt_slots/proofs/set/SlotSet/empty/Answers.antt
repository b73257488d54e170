use Rattle.opt_slots.proofs.Slots.{marked_in-replicate}
use Rattle.opt_slots.proofs.set.SlotSet.empty.Goals as goal

pub returns : goal.returns
returns c = marked_in-replicate 512
