use Rattle.std.proofs.Common.{◌+◌, sym, ◌∙◌}
use Rattle.opt_slots.proofs.Slots.{meets-here, meets-past}
use Rattle.opt_slots.proofs.set.SlotSet.has_any.Goals as goal

pub returns-then-self-slot : goal.returns-then-self-slot
returns-then-self-slot c =
    sym (meets-here c.args.self.now.marked c.loop-slot.slot (c.args.first + c.args.count) c.loop-slot-test.true c.if-self-slot.true) ∙ c.loop-slot.invariant

pub loop-slot-preserved : goal.loop-slot-preserved
loop-slot-preserved c =
    sym (meets-past c.args.self.now.marked c.loop-slot.slot (c.args.first + c.args.count) c.loop-slot-test.true c.if-self-slot.false) ∙ c.loop-slot.invariant
