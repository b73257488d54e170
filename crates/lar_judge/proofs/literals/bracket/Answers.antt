use Rattle.std.proofs.Common.{◌∙◌, ap, arith}
use Rattle.std.proofs.lemmas.Result.{IfOk-weaker, on_ok_weaker}
use Rattle.lar_rules.specs.Fault.{least}
use Rattle.lar_judge.proofs.BracketRules.{bracket_tuple, bracket_told}
use Rattle.lar_judge.proofs.Operands.{knows_same}
use Rattle.lar_judge.proofs.literals.bracket.Goals as goal

pub returns-then-len-ne1-clause-known : goal.returns-then-len-ne1-clause-known
returns-then-len-ne1-clause-known c = IfOk-weaker c.tuple.result _ _
    (λ r h env e. knows_same _ r _ _ (bracket_tuple c.args.types.now env c.args.at c.args.parts.items (λ one. absurd (omega arith))) (h env e))
    c.tuple.ensures.known

pub returns-then-len-ne1-clause-told : goal.returns-then-len-ne1-clause-told
returns-then-len-ne1-clause-told c env e = on_ok_weaker c.tuple.result
    (λ h. h ∙ ap (λ j. least c.args.first.now j.faults) (bracket_tuple c.args.types.now env c.args.at c.args.parts.items (λ one. absurd (omega arith))))
    (c.tuple.ensures.told env e)

pub returns-clause-told : goal.returns-clause-told
returns-clause-told c env e = bracket_told c.args.types.now env c.args.at c.args.parts.items c.args.first.now (omega arith)
