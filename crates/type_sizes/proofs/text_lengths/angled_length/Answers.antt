use Rattle.type_sizes.proofs.TextLengths.{angled_none, angled_some}
use Rattle.type_sizes.proofs.text_lengths.angled_length.Goals as goal

pub returns-in-End : goal.returns-in-End
returns-in-End c = λ text e. angled_none c.args.types.now c.args.list text c.in-End.ensures.stands

pub returns-in_default : goal.returns-in_default
returns-in_default c = λ text e. angled_some c.args.types.now c.args.list c.args.inner c.saturating_add.result c.row.result text c.row.ensures.stands c.in_default.not-End e c.saturating_add.ensures
