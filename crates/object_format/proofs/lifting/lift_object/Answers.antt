use Rattle.std.proofs.Common.{subst, arith}
use Rattle.lar_bytes.specs.Answers.{Answers}
use Rattle.object_format.proofs.Objects.{is_lifted, lifted_again}
use Rattle.object_format.proofs.lifting.lift_object.Goals as goal

pub returns-clause-found : goal.returns-clause-found
returns-clause-found c = is_lifted c.args.bytes.now c.lifted_of.result (λ i. omega (arith, c.type_inv.bytes i)) c.lifted_of.ensures

pub returns-clause-only : goal.returns-clause-only
returns-clause-only c = λ object spells. subst (λ f. Answers (λ x. x) c.lifted_of.result f) (lifted_again c.args.bytes.now object spells) c.lifted_of.ensures
