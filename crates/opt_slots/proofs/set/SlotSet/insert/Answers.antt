use Rattle.std.proofs.Common.{arith}
use Rattle.opt_slots.proofs.Slots.{marked_in-set}
use Rattle.opt_slots.proofs.set.SlotSet.insert.Goals as goal

pub returns : goal.returns
returns c = marked_in-set c.args.self.now.marked c.args.slot (omega arith)
