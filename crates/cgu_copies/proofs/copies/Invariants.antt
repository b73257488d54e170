use Rattle.std.proofs.Common.{◌≤◌, ◌-◌, length}
use Rattle.std.specs.Prelude.{All}
use Rattle.cgu_copies.proofs.Marks.{Homing, Copying}
use Rattle.cgu_copies.proofs.copies.Given as goal

abbrev pub invariant-loop-item : goal.invariant-loop-item
invariant-loop-item l = Homing l.mark l.home l.item-index l.seen l.found.items × All (λ s. s ≤ l.mark) l.seen

abbrev pub invariant-loop-member : goal.invariant-loop-member
invariant-loop-member l = Copying l.callees l.homeless l.mark l.home l.member l.seen l.found.items × All (λ s. s ≤ l.mark) l.seen

abbrev pub decreases-loop-member : goal.decreases-loop-member
decreases-loop-member l = length l.homeless - l.member
