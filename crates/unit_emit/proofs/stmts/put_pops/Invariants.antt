use Rattle.std.proofs.Common.{List, ℕ}
use Rattle.unit_emit.specs.Code.{Emits, several, pops}
use Rattle.unit_emit.proofs.stmts.put_pops.Given as goal

-- what writes the rest writes the whole
abbrev pub invariant-loop-left : goal.invariant-loop-left
invariant-loop-left l = (now : List ℕ) → Emits l.code.items (several (pops l.left)) now → Emits l.initial.code.items (several (pops l.count)) now

abbrev pub decreases-loop-left : goal.decreases-loop-left
decreases-loop-left l = l.left
