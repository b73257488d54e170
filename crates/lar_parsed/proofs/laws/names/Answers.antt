use Rattle.lar_parsed.proofs.Parsed.{named}
use Rattle.lar_parsed.proofs.laws.names.Goals as goal

pub returns : goal.returns
returns c = named
