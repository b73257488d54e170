use Rattle.std.proofs.Common.{◌-◌, sym, ◌∙◌, arith}
use Rattle.lar_written.proofs.Standings.{keeps_twice, inside_kept}
use Rattle.lar_written.proofs.Sorting.{given_inside, sorted_further, sorted_missing}
use Rattle.lar_written.proofs.fitted.sorted.Goals as goal

pub longer-requires-clause-first : goal.longer-requires-clause-first
longer-requires-clause-first c =
    inside_kept c.args.types.now c.loop-at.types _ c.loop-at.invariant.kept (given_inside c.args.types.now c.args.given.now (c.loop-at.at - 1) _ c.requires.inside (omega arith))

pub loop-at-preserved-in_ok-list : goal.loop-at-preserved-in_ok-list
loop-at-preserved-in_ok-list c = record {
  kept = keeps_twice c.args.types.now c.loop-at.types c.longer.new.types c.loop-at.invariant.kept c.longer.ensures.kept;
  below = omega arith;
  list = sorted_further c.args.types.now c.loop-at.types c.longer.new.types c.args.sorts.now c.args.given.now c.loop-at.at (c.loop-at.at - 1) _ _ c.loop-at.list c.in_ok-list.list c.loop-at.invariant.kept c.requires.inside (omega arith) c.loop-at.invariant.below c.requires.same (sym c.is_same_sort.ensures ∙ c.if-is_same_sort.true) c.loop-at.invariant.list c.in_ok-list.ensures.of;
}
