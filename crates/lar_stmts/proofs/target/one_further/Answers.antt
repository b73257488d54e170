use Rattle.std.proofs.Common.{subst, Option}
use Rattle.std.specs.Prelude.{length}
use Rattle.lar_stmts.specs.declared.target.Target.{Target}
use Rattle.lar_stmts.specs.Targets.{TargetWithin}
use Rattle.lar_stmts.proofs.Places.{steps_pushed}
use Rattle.lar_stmts.proofs.target.one_further.Goals as goal

pub returns-in_ok-push-in-Some-clause-within : goal.returns-in_ok-push-in-Some-clause-within
returns-in_ok-push-in-Some-clause-within c rows h w =
    steps_pushed (length rows) c.in-Some.target.steps c.push.new.self (record { part = c.args.part; of = c.args.of }) c.in_ok-push-in-Some.ensures.ok h (subst (λ (x : Option Target). TargetWithin rows x) c.in-Some.is w)
