use Rattle.struct_chains.proofs.Rounds.{entry_is, followers_below}
use Rattle.struct_chains.proofs.laws.entries.Goals as goal

pub returns : goal.returns
returns c = record { entry = entry_is; limited = followers_below }
