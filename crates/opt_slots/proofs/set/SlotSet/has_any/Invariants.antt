use Rattle.std.proofs.Common.{◌≡◌, ◌+◌, ◌-◌}
use Rattle.opt_slots.specs.Slots.{slots_of, meets}
use Rattle.opt_slots.proofs.set.SlotSet.has_any.Given as goal

abbrev pub invariant-loop-slot : goal.invariant-loop-slot
invariant-loop-slot l = meets (slots_of l.self) l.slot (l.first + l.count - l.slot) ≡ meets (slots_of l.self) l.first l.count
