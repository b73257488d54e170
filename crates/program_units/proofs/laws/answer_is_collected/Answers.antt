use Rattle.program_units.proofs.Collected.{answer_collected}
use Rattle.program_units.proofs.laws.answer_is_collected.Goals as goal

pub returns : goal.returns
returns c = answer_collected
