use Rattle.std.proofs.Common.{ℕ, ◌<◌, ◌≤◌, get_or}
use Rattle.type_widths.proofs.level.deepest.Given as goal

abbrev pub invariant-loop-level : goal.invariant-loop-level
invariant-loop-level l = (r : ℕ) → r < l.level-index → get_or l.levels r 0 ≤ l.most
