use Rattle.lar_parsed.proofs.Parsed.{source_parsed}
use Rattle.lar_parsed.proofs.laws.parsed.Goals as goal

pub returns : goal.returns
returns c = source_parsed
