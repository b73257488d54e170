use Rattle.std.proofs.Common.{arith}
use Rattle.listings.proofs.Numbered.{length-image, length-object}
use Rattle.listings.proofs.listed.Listed.push_part.Goals as goal

pub push_image_part-requires : goal.push_image_part-requires
push_image_part-requires c = omega (arith, length-image c.in-Image.image, rw c.in-Image.is at c.requires)

pub push_object_part-requires : goal.push_object_part-requires
push_object_part-requires c = omega (arith, length-object c.in-Object.object, rw c.in-Object.is at c.requires)
