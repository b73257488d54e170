use Rattle.std.proofs.Common.{arith}
use Rattle.lar_written.specs.Sites.{site_view}
use Rattle.lar_written.proofs.Sorting.{missorted_further, missorted_end}
use Rattle.lar_written.proofs.fault.note_all_missorted.Goals as goal

pub loop-place-preserved : goal.loop-place-preserved
loop-place-preserved c =
    missorted_further (site_view c.args.site.now) c.args.sorts.now c.args.given.now c.loop-place.place _ _ c.loop-place.first c.note_if_missorted.new.first _ (omega arith) (omega arith) c.in_ok-note_if_missorted.ensures c.loop-place.invariant

pub returns : goal.returns
returns c = missorted_end (site_view c.args.site.now) c.args.sorts.now c.args.given.now c.loop-place.place c.loop-place.first _ (omega arith) c.loop-place.invariant
