use Rattle.std.proofs.Common.{◌-◌, arith}
use Rattle.listings.proofs.Numbered.{image-at}
use Rattle.listings.proofs.listed.push_image_part.Goals as goal

pub returns-else-part-eq0 : goal.returns-else-part-eq0
returns-else-part-eq0 c = rw (image-at c.args.image.now c.args.part (c.args.part - 1) c.index-functions-part.result (omega (arith, c.if-part-eq0.false)) (omega (arith, c.if-part-eq0.false, c.requires)) (rw c.functions.ensures.list at c.index-functions-part.is)) c.push_function.ensures
