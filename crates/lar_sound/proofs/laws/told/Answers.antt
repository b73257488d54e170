use Rattle.lar_sound.proofs.ProgramTold.{program_typed}
use Rattle.lar_sound.proofs.laws.told.Goals as goal

pub returns : goal.returns
returns c = program_typed
