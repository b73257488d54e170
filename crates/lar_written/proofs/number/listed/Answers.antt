use Rattle.std.proofs.Common.{◌-◌, None, arith}
use Rattle.lar_written.proofs.Standings.{keeps_twice, inside_kept, inside_at, list_further}
use Rattle.lar_written.proofs.number.listed.Goals as goal

pub longer-requires-clause-first : goal.longer-requires-clause-first
longer-requires-clause-first c =
    inside_kept c.args.types.now c.loop-at.types _ c.loop-at.invariant.kept (inside_at c.args.types.now c.args.members.now (c.loop-at.at - 1) None c.requires (omega arith))

pub loop-at-preserved : goal.loop-at-preserved
loop-at-preserved c = record {
  kept = keeps_twice c.args.types.now c.loop-at.types c.longer.new.types c.loop-at.invariant.kept c.longer.ensures.kept;
  below = omega arith;
  list = list_further c.args.types.now c.loop-at.types c.longer.new.types c.args.members.now c.loop-at.at (c.loop-at.at - 1) None c.loop-at.list c.in_ok-list.list c.loop-at.invariant.kept c.requires (omega arith) c.loop-at.invariant.below c.loop-at.invariant.list c.in_ok-list.ensures.of;
}
