use Rattle.std.proofs.Common.{◌≡◌, length}
use Rattle.opt_slots.specs.Slots.{slots_of}
use Rattle.opt_known.specs.Facts.{forget}
use Rattle.opt_known.specs.Walked.{facts_of}
use Rattle.opt_known.proofs.Forgotten.{below}
use Rattle.opt_known.proofs.facts.Facts.put_all.Given as goal

abbrev pub invariant-loop-slot : goal.invariant-loop-slot
invariant-loop-slot l = (length l.self.entries.items ≡ length l.initial.self.entries.items) × (facts_of l.self ≡ forget (below l.slot (slots_of l.set)) (facts_of l.initial.self))
