use Rattle.std.proofs.Common.{◌∙◌}
use Rattle.lar_judge.proofs.Kept.{within_kept}
use Rattle.lar_judge.proofs.Operands.{misfit_kept, unary_knows}
use Rattle.lar_judge.proofs.operators.unary.Goals as goal

pub misfit-requires-clause-within : goal.misfit-requires-clause-within
misfit-requires-clause-within c = within_kept c.args.types.now c.unary_type.new.types c.args.e.typed c.unary_type.ensures.kept c.requires

pub fitting-requires-clause-within : goal.fitting-requires-clause-within
fitting-requires-clause-within c = within_kept c.args.types.now c.unary_type.new.types c.args.e.typed c.unary_type.ensures.kept c.requires

pub returns-clause-known : goal.returns-clause-known
returns-clause-known c env = unary_knows c.args.types.now c.unary_type.new.types c.args.e c.in_ok-of.of c.args.op c.unary_op.result c.args.at env c.fitting.result c.in_ok-typed.typed
    c.unary_type.ensures.kept c.requires c.in_ok-of.ensures.number c.unary_op.ensures c.fitting.ensures.within c.fitting.ensures.is c.in_ok-typed.ensures.within c.in_ok-typed.ensures.is

pub returns-clause-told : goal.returns-clause-told
returns-clause-told c env h = c.in_ok-misfit.ensures env.site h ∙ misfit_kept env.site _ _ c.args.first.now c.args.types.now c.unary_type.new.types c.args.e c.unary_type.ensures.kept c.requires c.in_ok-of.ensures.number.is
