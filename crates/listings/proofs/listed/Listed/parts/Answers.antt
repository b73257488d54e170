use Rattle.std.proofs.Common.{sym}
use Rattle.listings.proofs.Numbered.{length-image, length-object}
use Rattle.listings.proofs.listed.Listed.parts.Goals as goal

pub returns-in-Image : goal.returns-in-Image
returns-in-Image c = rw (c.in-Image.is, c.functions.ensures.list) (sym (length-image c.in-Image.image))

pub returns-in-Object : goal.returns-in-Object
returns-in-Object c = rw (c.in-Object.is, c.functions-in-Object.ensures.list, c.externals.ensures.list) (sym (length-object c.in-Object.object))
