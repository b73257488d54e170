use Rattle.std.proofs.Common.{subst, arith}
use Rattle.lar_bytes.specs.Answers.{Answers}
use Rattle.object_format.specs.declared.version.Version.TheVariants.{Two}
use Rattle.object_format.proofs.Objects.{is_found, object_again}
use Rattle.object_format.proofs.object_reading.read_object.Goals as goal

pub returns-clause-found : goal.returns-clause-found
returns-clause-found c = is_found c.args.bytes.now c.object_of.result (λ i. omega (arith, c.type_inv.bytes i)) c.object_of.ensures

pub returns-clause-only : goal.returns-clause-only
returns-clause-only c = λ object spells. subst (λ f. Answers (λ x. x) c.object_of.result f) (object_again Two spells.version c.args.bytes.now object spells.spells tt) c.object_of.ensures
