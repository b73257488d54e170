use Rattle.lar_judge.proofs.Rows.{keeps_twice}
use Rattle.lar_judge.proofs.Operands.{rule_is}
use Rattle.lar_judge.proofs.operators.rule_of.Goals as goal

pub returns-clause-rule : goal.returns-clause-rule
returns-clause-rule c = rule_is c.result_type.new.types c.operand_type.new.types c.int_type.new.types c.args.op _ c.operand_type.ensures.kept c.int_type.ensures.kept c.binary_op.ensures c.in_ok-of.ensures.number c.in_ok-wanted.ensures.within c.in_ok-wanted.ensures.is c.in_ok-int.ensures.number

pub returns-clause-kept : goal.returns-clause-kept
returns-clause-kept c = keeps_twice _ _ _ c.result_type.ensures.kept (keeps_twice _ _ _ c.operand_type.ensures.kept c.int_type.ensures.kept)
