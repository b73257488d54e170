use Rattle.std.proofs.Common.{arith}
use Rattle.std.proofs.lemmas.Result.{on_ok_weaker}
use Rattle.unit_close.proofs.Measured.{first_row, others_row, more_widths}
use Rattle.unit_close.proofs.measure.Measure.+put_widths.Goals as goal

pub width-requires-clause-row : goal.width-requires-clause-row
width-requires-clause-row t c = first_row _ c.args.list c.in-More.first c.in-More.others c.in-More.ensures.stands c.in-More.ensures.earlier c.requires.list

pub put_widths-requires : goal.put_widths-requires
put_widths-requires t c = (
  omega (arith, c.in-More.ensures.earlier.1, c.decreases),
  (c.requires.measure, (c.requires.few, others_row _ c.args.list c.in-More.first c.in-More.others c.in-More.ensures.stands c.in-More.ensures.earlier c.requires.list)),
)

pub returns-in_ok-push-in-More : goal.returns-in_ok-push-in-More
returns-in_ok-push-in-More t c =
    on_ok_weaker c.put_widths.result (λ h. more_widths c.args.self.now.types.now c.args.self.now.structs.now c.args.widths.now c.args.list c.in-More.first c.in-More.others c.width.result c.args.out.now.items c.push.new.self.items c.put_widths.new.out.items c.in-More.ensures.stands c.width.ensures c.in_ok-push-in-More.ensures.items h) c.put_widths.ensures
