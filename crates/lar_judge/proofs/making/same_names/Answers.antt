use Rattle.std.proofs.Common.{arith}
use Rattle.lar_judge.proofs.NewRules.{no_names_left}
use Rattle.lar_judge.proofs.making.same_names.Goals as goal

pub returns-else-same-set-clause-is : goal.returns-else-same-set-clause-is
returns-else-same-set-clause-is c = no_names_left c.args.fields.now c.args.set.now c.loop-same.same _ (omega arith) c.loop-same.invariant.is
