use Rattle.lar_sound.proofs.NamesJoined.{paths_same}
use Rattle.lar_sound.proofs.laws.paths.Goals as goal

pub returns : goal.returns
returns c = paths_same
