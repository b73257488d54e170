use Rattle.lar_sound.proofs.Sound.{program_sound}
use Rattle.lar_sound.proofs.laws.sound.Goals as goal

pub returns : goal.returns
returns c = program_sound
