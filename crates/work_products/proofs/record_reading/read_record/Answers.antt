use Rattle.std.proofs.Common.{subst, arith}
use Rattle.lar_bytes.specs.Answers.{Answers}
use Rattle.work_products.proofs.RecordLaws.{read-found, record_read-spelled}
use Rattle.work_products.proofs.record_reading.read_record.Goals as goal

pub returns-clause-found : goal.returns-clause-found
returns-clause-found c = read-found c.args.bytes.now c.copied_parts.result (λ i. omega (arith, c.type_inv.bytes i)) c.copied_parts.ensures

pub returns-clause-only : goal.returns-clause-only
returns-clause-only c = λ r spells. subst (λ f. Answers (λ x. x) c.copied_parts.result f) (record_read-spelled c.args.bytes.now r spells) c.copied_parts.ensures
