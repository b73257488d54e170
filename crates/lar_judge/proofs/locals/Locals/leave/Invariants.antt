use Rattle.std.proofs.Common.{◌≡◌, ◌≤◌, length, take}
use Rattle.lar_judge.proofs.locals.Locals.leave.Given as goal

abbrev pub invariant-loop-self : goal.invariant-loop-self
invariant-loop-self l = record {
  more : l.count ≤ length l.self.locals.items;
  same : take l.count l.self.locals.items ≡ take l.count l.initial.self.locals.items;
}

abbrev pub decreases-loop-self : goal.decreases-loop-self
decreases-loop-self l = length l.self.locals.items
