use Rattle.std.proofs.Common.{◌≡◌, ◌+◌, ◌-◌, ◌≤◌, length}
use Rattle.opt_known.specs.Walked.{facts_of}
use Rattle.opt_known.proofs.facts.Facts.reach.Given as goal

abbrev pub invariant-loop-self : goal.invariant-loop-self
invariant-loop-self l = (length l.initial.self.entries.items ≤ length l.self.entries.items) × (facts_of l.self ≡ facts_of l.initial.self)

abbrev pub decreases-loop-self : goal.decreases-loop-self
decreases-loop-self l = l.slot + 1 - length l.self.entries.items
