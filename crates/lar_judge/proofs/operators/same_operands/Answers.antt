use Rattle.lar_judge.proofs.Operands.{same_operands_knows, told_two}
use Rattle.lar_judge.proofs.operators.same_operands.Goals as goal

pub returns-clause-known : goal.returns-clause-known
returns-clause-known c env = same_operands_knows c.args.types.now env c.args.a c.args.b c.args.rule.of c.args.wanted c.args.rule.op c.fitting-left.result c.fitting-right.result c.in_ok-typed.typed
    c.requires.of c.fitting-left.ensures.within c.fitting-right.ensures.within c.fitting-left.ensures.is c.fitting-right.ensures.is c.in_ok-typed.ensures.within c.in_ok-typed.ensures.is

pub returns-clause-told : goal.returns-clause-told
returns-clause-told c env h = told_two c.args.first.now _ _ _ _ (c.in_ok-misfit.ensures env.site h) (c.in_ok-misfit-2.ensures env.site h)
