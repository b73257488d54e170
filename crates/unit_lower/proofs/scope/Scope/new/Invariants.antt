use Rattle.std.proofs.Common.{◌≡◌, ℕ, ◌<◌, ◌≤◌, length, take, get_or}
use Rattle.std.specs.Prelude.{sum}
use Rattle.unit_lower.proofs.scope.Scope.new.Given as goal

abbrev pub invariant-loop-width : goal.invariant-loop-width
invariant-loop-width l =
    (l.next ≤ 255)
    × (l.next ≡ sum (take l.width-index l.locals))
    × (length l.firsts.items ≡ l.width-index)
    × ((n d : ℕ) → n < l.width-index → get_or l.firsts.items n d ≡ sum (take n l.locals))
