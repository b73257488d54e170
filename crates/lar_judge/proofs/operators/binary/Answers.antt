use Rattle.std.proofs.Common.{◌∙◌, ap}
use Rattle.std.proofs.lemmas.Result.{IfOk-weaker, on_ok_weaker}
use Rattle.lar_rules.specs.Fault.{least}
use Rattle.lar_judge.specs.Known.{type_if}
use Rattle.lar_judge.proofs.Kept.{within_kept}
use Rattle.lar_judge.proofs.Operands.{rule_same, knows_same}
use Rattle.lar_judge.proofs.operators.binary.Goals as goal

pub same_operands-requires-clause-a : goal.same_operands-requires-clause-a
same_operands-requires-clause-a c = within_kept _ _ c.args.a.typed c.rule_of.ensures.kept c.requires.a

pub same_operands-requires-clause-b : goal.same_operands-requires-clause-b
same_operands-requires-clause-b c = within_kept _ _ c.args.b.typed c.rule_of.ensures.kept c.requires.b

pub compared-requires-clause-a : goal.compared-requires-clause-a
compared-requires-clause-a c = within_kept _ _ c.args.a.typed c.rule_of.ensures.kept c.requires.a

pub compared-requires-clause-b : goal.compared-requires-clause-b
compared-requires-clause-b c = within_kept _ _ c.args.b.typed c.rule_of.ensures.kept c.requires.b

pub returns-in-Some-clause-known : goal.returns-in-Some-clause-known
returns-in-Some-clause-known c = IfOk-weaker c.same_operands.result _ _
    (λ r h env. knows_same _ r _ _ (rule_same c.args.types.now c.rule_of.new.types c.args.op c.in_ok-rule.rule env c.args.a c.args.b _ c.rule_of.ensures.kept c.in_ok-rule.ensures.rule c.requires.a c.requires.b (ap (type_if c.rule_of.new.types) c.in-Some.is)) (h env))
    c.same_operands.ensures.known

pub returns-in-Some-clause-told : goal.returns-in-Some-clause-told
returns-in-Some-clause-told c env h = on_ok_weaker c.same_operands.result
    (λ e. e ∙ ap (λ j. least c.args.first.now j.faults) (rule_same c.args.types.now c.rule_of.new.types c.args.op c.in_ok-rule.rule env c.args.a c.args.b _ c.rule_of.ensures.kept c.in_ok-rule.ensures.rule c.requires.a c.requires.b (ap (type_if c.rule_of.new.types) c.in-Some.is)))
    (c.same_operands.ensures.told env h)

pub returns-in-None-clause-known : goal.returns-in-None-clause-known
returns-in-None-clause-known c = IfOk-weaker c.compared.result _ _
    (λ r h env. knows_same _ r _ _ (rule_same c.args.types.now c.rule_of.new.types c.args.op c.in_ok-rule.rule env c.args.a c.args.b _ c.rule_of.ensures.kept c.in_ok-rule.ensures.rule c.requires.a c.requires.b (ap (type_if c.rule_of.new.types) c.in-None.is)) (h env))
    c.compared.ensures.known

pub returns-in-None-clause-told : goal.returns-in-None-clause-told
returns-in-None-clause-told c env h = on_ok_weaker c.compared.result
    (λ e. e ∙ ap (λ j. least c.args.first.now j.faults) (rule_same c.args.types.now c.rule_of.new.types c.args.op c.in_ok-rule.rule env c.args.a c.args.b _ c.rule_of.ensures.kept c.in_ok-rule.ensures.rule c.requires.a c.requires.b (ap (type_if c.rule_of.new.types) c.in-None.is)))
    (c.compared.ensures.told env h)
