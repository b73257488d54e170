use Rattle.lar_parsed.proofs.Parsed.{source_ordered}
use Rattle.lar_parsed.proofs.laws.ordered.Goals as goal

pub returns : goal.returns
returns c = source_ordered
