use Rattle.std.proofs.Common.{rules, arith, ◌<◌, ◌≤◌, length}
use Rattle.cgu_copies.proofs.Marks.{copying_more, copying_few, row_at, RowAt}
use Rattle.cgu_copies.proofs.copies.Goals as goal

pub loop-member-smaller : goal.loop-member-smaller
loop-member-smaller c =
    let few : length c.loop-member.found.items ≤ length c.args.homeless.now = copying_few c.args.callees.now c.args.homeless.now c.args.mark c.args.home.now c.loop-member.member c.loop-member.seen c.loop-member.found.items c.requires.once c.loop-member.invariant.0 in
    let more : c.loop-member.member < length c.loop-member.found.items = search rules in
    omega arith

pub loop-member-preserved : goal.loop-member-preserved
loop-member-preserved c =
    let more : c.loop-member.member < length c.loop-member.found.items = search rules in
    let below : c.index-item.result.now < length c.args.homeless.now = rw c.index-item.ensures (c.loop-member.invariant.0.below c.loop-member.member c.index-item.result.now more) in
    let row : RowAt c.args.callees.now (length c.args.homeless.now) c.index-item.result.now c.as_slice-row.result.now = row_at c.args.callees.now (length c.args.homeless.now) c.index-item.result.now c.index-callees-item.result c.as_slice-row.result.now c.requires.graph (omega (arith, c.requires.count)) c.index-callees-item.is c.as_slice-row.ensures.value in
    (copying_more c.args.callees.now c.args.homeless.now c.args.mark c.args.home.now c.loop-member.member c.loop-member.seen c.loop-member.found.items c.reach_row.new.seen c.reach_row.new.found.items c.as_slice-row.result.now c.index-item.result.now c.requires.once row.inside more c.index-item.ensures row.is c.loop-member.invariant.0 c.in_ok-reach_row.ensures.reached, c.in_ok-reach_row.ensures.marks)
