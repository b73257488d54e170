use Rattle.std.proofs.Common.{◌≡◌}
use Rattle.opt_slots.specs.Slots.{slots_of, also, between}
use Rattle.opt_slots.proofs.set.SlotSet.insert_span.Given as goal

abbrev pub invariant-loop-slot : goal.invariant-loop-slot
invariant-loop-slot l = slots_of l.self ≡ also (slots_of l.initial.self) (between l.first l.slot)
