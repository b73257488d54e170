use Rattle.std.proofs.Common.{◌-◌, length, arith}
use Rattle.listings.proofs.Numbered.{function-at, external-at}
use Rattle.listings.proofs.listed.push_object_part.Goals as goal

pub returns-then-part-functions : goal.returns-then-part-functions
returns-then-part-functions c =
    rw (function-at c.args.object.now c.args.part c.index-functions-part.result (rw c.functions-functions.ensures.list at c.if-part-functions.true) (rw c.functions-functions.ensures.list at c.index-functions-part.is)) c.push_unlinked.ensures

pub returns-else-part-functions : goal.returns-else-part-functions
returns-else-part-functions c =
    let o = c.args.object.now in
    let behind = rw c.functions-functions.ensures.list at c.if-part-functions.false in
    rw (external-at o c.args.part (c.args.part - length o.functions) c.index-externals-part.result (omega (arith, behind)) (omega (arith, behind, c.requires)) (rw (c.externals.ensures.list, c.functions-functions.ensures.list) at c.index-externals-part.is))
    (rw c.as_str.ensures.text at c.push_use.ensures)
