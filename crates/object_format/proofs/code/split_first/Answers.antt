use Rattle.std.proofs.Common.{◌≡◌, sym, ◌∙◌}
use Rattle.object_format.proofs.Splits.{splits}
use Rattle.object_format.proofs.code.split_first.Goals as goal

pub returns-clause-some : goal.returns-clause-some
returns-clause-some c =
    splits c.args.code.now c.in_ok-opcode.opcode c.split_at.result.0.now c.split_at.result.1.now c.operand_len.result c.operand_len-2.result c.in-len1-up.len_at_least
    (sym c.of.ensures ∙ c.in_ok-opcode.was) c.operand_len.ensures c.operand_len-2.ensures c.if-behind-operand_len.false c.split_at.ensures.front c.split_at.ensures.back
