use Rattle.unit_close.proofs.Measured.{form_value}
use Rattle.unit_close.proofs.measure.Measure.width.Goals as goal

pub returns : goal.returns
returns c = form_value c.args.self.now c.args.row c.value.result c.index-self-row.result c.deref.result.now c.args.widths.now c.requires.measure c.requires.row c.deref.ensures.value c.value.ensures
