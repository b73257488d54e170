use Rattle.std.proofs.Common.{ap, ◌∙◌}
use Rattle.opt_known.specs.Table.{facts_in}
use Rattle.opt_known.proofs.Times.{facts_in-none}
use Rattle.opt_known.proofs.facts.Facts.none.Goals as goal

pub returns : goal.returns
returns c = ap facts_in c.new.ensures.items ∙ facts_in-none
