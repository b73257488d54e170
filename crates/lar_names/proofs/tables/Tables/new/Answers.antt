use Rattle.lar_names.proofs.Looks.{look_nil}
use Rattle.lar_names.proofs.tables.Tables.new.Goals as goal

pub returns-clause-look : goal.returns-clause-look
returns-clause-look g c = λ s q. look_nil c.new.result.items s q c.new.ensures.items
