use Rattle.closed_input.proofs.Numbered.{item_lawful}
use Rattle.closed_input.proofs.laws.items.Goals as goal

pub returns : goal.returns
returns c = item_lawful
