use Rattle.std.proofs.Common.{◌∙◌, sym}
use Rattle.std.proofs.lemmas.Result.{on_ok_weaker}
use Rattle.lar_judge.proofs.Operands.{not_scalar_noted, not_scalar_none, not_scalar_faulty}
use Rattle.lar_judge.proofs.operators.not_scalar.Goals as goal

pub returns-in-None : goal.returns-in-None
returns-in-None c s h = not_scalar_faulty s c.args.e.now.at c.args.first.now c.args.types.now c.args.e.now.typed c.in-None.is

pub returns-then-is_scalar : goal.returns-then-is_scalar
returns-then-is_scalar c s h = not_scalar_none s c.args.e.now.at c.args.first.now c.args.types.now c.args.e.now.typed c.in-Some.x c.label-of.result c.in-Some.is c.label-of.ensures (sym c.is_scalar.ensures ∙ c.if-is_scalar.true)

pub returns-else-is_scalar : goal.returns-else-is_scalar
returns-else-is_scalar c s h = on_ok_weaker c.note_other_type.result
    (λ e. e ∙ not_scalar_noted s c.args.e.now.at c.args.first.now c.args.types.now c.args.e.now.typed c.in-Some.x c.args.int c.label-of.result c.in-Some.is c.requires.int.is c.label-of.ensures (sym c.is_scalar.ensures ∙ c.if-is_scalar.false))
    (c.note_other_type.ensures s h)
