use Rattle.std.proofs.Common.{subst, ◌∙◌, arith}
use Rattle.lar_bytes.specs.Answers.{Answers}
use Rattle.object_format.proofs.Images.{is_found, image_again}
use Rattle.object_format.proofs.image_reading.read_image.Goals as goal

pub returns-clause-found : goal.returns-clause-found
returns-clause-found c = is_found c.args.bytes.now c.image_of.result (λ i. omega (arith, c.type_inv.bytes i)) c.image_of.ensures

pub returns-clause-only : goal.returns-clause-only
returns-clause-only c = λ image spells. subst (λ f. Answers (λ x. x) c.image_of.result f) (image_again c.args.bytes.now image spells) c.image_of.ensures
