use Rattle.std.proofs.Common.{◌∙◌, ap, refl}
use Rattle.lar_rules.specs.Judged.{misfit_if}
use Rattle.lar_rules.specs.Fault.{least}
use Rattle.lar_judge.specs.Known.{known}
use Rattle.lar_judge.proofs.Operands.{compared_knows, told_two}
use Rattle.lar_judge.proofs.operators.compared.Goals as goal

pub returns-clause-known : goal.returns-clause-known
returns-clause-known c env = compared_knows c.args.types.now env c.args.a c.args.b c.args.rule.of c.scalar-wanted.result c.args.rule.op c.fitting_if-left.result c.fitting_if-right.result c.in_ok-typed.typed
    c.requires.of c.scalar-wanted.ensures.is c.fitting_if-left.ensures.within c.fitting_if-right.ensures.within
    (c.fitting_if-left.ensures.is (known c.args.types.now c.args.a) refl) (c.fitting_if-right.ensures.is (known c.args.types.now c.args.b) refl) c.in_ok-typed.ensures.within c.in_ok-typed.ensures.is

pub returns-clause-told : goal.returns-clause-told
returns-clause-told c env h = told_two c.args.first.now _ _ _ _ (c.in_ok-not_scalar.ensures env.site h)
    (c.in_ok-misfit_if.ensures env.site h ∙ ap (λ o. least c.not_scalar.new.first (misfit_if env.site o (known c.args.types.now c.args.b))) c.scalar-wanted.ensures.is)
