use Rattle.lar_sound.proofs.Depths.{followers_below, next_under}
use Rattle.lar_sound.proofs.laws.chains.Goals as goal

pub returns-clause-shallow : goal.returns-clause-shallow
returns-clause-shallow c = followers_below

pub returns-clause-falls : goal.returns-clause-falls
returns-clause-falls c = next_under
