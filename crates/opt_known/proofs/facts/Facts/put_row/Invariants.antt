use Rattle.std.proofs.Common.{◌≡◌}
use Rattle.opt_slots.specs.Slots.{between}
use Rattle.opt_known.specs.Facts.{forget}
use Rattle.opt_known.specs.Walked.{facts_of}
use Rattle.opt_known.proofs.facts.Facts.put_row.Given as goal

abbrev pub invariant-loop-slot : goal.invariant-loop-slot
invariant-loop-slot l = facts_of l.self ≡ forget (between l.first l.slot) (facts_of l.initial.self)
