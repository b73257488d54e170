use Rattle.std.proofs.Common.{◌∙◌}
use Rattle.lar_judge.proofs.Asserted.{refused_known, refused_told, passed_known, passed_told}
use Rattle.lar_judge.proofs.assertion.unless_asserting.Goals as goal

pub returns-then-asserting-clause-known : goal.returns-then-asserting-clause-known
returns-then-asserting-clause-known c rows env faults e w = refused_known _ _ rows env c.args.at _ faults c.if-asserting.true e

pub returns-then-asserting-clause-told : goal.returns-then-asserting-clause-told
returns-then-asserting-clause-told c env x e = c.note_none.ensures ∙ refused_told _ _ env c.args.at x c.args.first.now c.if-asserting.true e

pub returns-clause-known : goal.returns-clause-known
returns-clause-known c rows env faults e w = passed_known _ _ rows env c.args.at c.args.e faults c.if-asserting.false e w

pub returns-clause-told : goal.returns-clause-told
returns-clause-told c env x e = passed_told _ _ env c.args.at x c.args.first.now c.if-asserting.false e
