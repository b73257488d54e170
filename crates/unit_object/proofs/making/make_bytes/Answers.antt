use Rattle.std.proofs.Common.{subst}
use Rattle.lar_bytes.specs.Answers.{Answers}
use Rattle.lar_bytes.specs.declared.bytes.Bytes.{Bytes}
use Rattle.unit_input.specs.InputView.{input_view}
use Rattle.unit_ir.specs.Units.{unit_view}
use Rattle.unit_opt.specs.Optimised.{optimised}
use Rattle.unit_emit.specs.Object.{emitted}
use Rattle.unit_object.proofs.Answered.{answered, not_lowered, counted, not_counted}
use Rattle.unit_object.proofs.Kept.{bytes_of-read}
use Rattle.unit_object.proofs.making.make_bytes.Goals as goal

pub returns-in-Err-clause-object : goal.returns-in-Err-clause-object
returns-in-Err-clause-object g c = not_lowered (input_view c.args.input.now) c.in-Err.error c.in-Err.ensures.unit

pub returns-in-Err-clause-steps : goal.returns-in-Err-clause-steps
returns-in-Err-clause-steps g c = not_counted Bytes (input_view c.args.input.now) c.in-Err.error c.args.steps.now c.in-Err.ensures.unit

pub returns-clause-object : goal.returns-clause-object
returns-clause-object g c =
    let u = unit_view c.in-Ok.unit in
    let made : Answers (λ b. b) c.make.result (emitted (optimised c.args.input.now.level u)) = subst (λ n. Answers (λ b. b) c.make.result (emitted (optimised n u))) c.level.ensures.level c.make.ensures.object in
    answered (input_view c.args.input.now) u c.make.result c.in-Ok.ensures.unit made

pub returns-clause-read : goal.returns-clause-read
returns-clause-read g c =
    let u = unit_view c.in-Ok.unit in
    let made : Answers (λ b. b) c.make.result (emitted (optimised c.args.input.now.level u)) = subst (λ n. Answers (λ b. b) c.make.result (emitted (optimised n u))) c.level.ensures.level c.make.ensures.object in
    bytes_of-read (input_view c.args.input.now) c.make.result c.level.ensures.rules (answered (input_view c.args.input.now) u c.make.result c.in-Ok.ensures.unit made)

pub returns-clause-steps : goal.returns-clause-steps
returns-clause-steps g c = counted (input_view c.args.input.now) (unit_view c.in-Ok.unit) c.make.result c.args.steps.now c.make.new.steps c.in-Ok.ensures.unit c.make.ensures.steps
