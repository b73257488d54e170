use Rattle.std.proofs.lemmas.Result.{err_from_is_err_and}
use Rattle.std.proofs.Common.{[]}
use Rattle.object_format.specs.Reading.{items_at, linked_behind}
use Rattle.object_format.proofs.Items.{goes_on, ends, is_done}
use Rattle.object_format.proofs.image_reading.functions_of.Goals as goal

pub returns-in_err-more : goal.returns-in_err-more
returns-in_err-more c =
    let p = err_from_is_err_and c.from_residual.result c.from_residual.ensures.1 in
    rw (p.1, p.2) (ends (linked_behind c.args.version c.args.count) c.args.count c.loop.counter c.loop.functions c.loop.rest (items_at (linked_behind c.args.version c.args.count) c.args.count [] c.args.rest) c.in_err-more.field-0.0 c.loop-test.true c.in_err-more.ensures c.loop.invariant)

pub loop-preserved : goal.loop-preserved
loop-preserved c =
    goes_on (linked_behind c.args.version c.args.count) c.args.count c.loop.counter c.loop.functions c.loop.rest (items_at (linked_behind c.args.version c.args.count) c.args.count [] c.args.rest) c.in_ok-more.more c.in_ok-more.behind c.loop-test.true c.in_ok-more.ensures c.loop.invariant

pub returns : goal.returns
returns c = is_done (linked_behind c.args.version c.args.count) c.args.count c.loop.counter c.loop.functions c.loop.rest (items_at (linked_behind c.args.version c.args.count) c.args.count [] c.args.rest) c.loop-test.false c.loop.invariant
