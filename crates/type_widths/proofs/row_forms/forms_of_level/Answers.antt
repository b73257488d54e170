use Rattle.std.proofs.Common.{arith}
use Rattle.type_widths.proofs.Levels.{done_level}
use Rattle.type_widths.proofs.row_forms.forms_of_level.Goals as goal

pub returns : goal.returns
returns c = done_level c.args.types.now c.args.structs.now c.args.level c.loop-number.number c.loop-number.forms.items (omega (arith, c.loop-number-test.false, c.loop-number.auto.number-end, c.len-number-end.ensures.len)) c.loop-number.invariant
