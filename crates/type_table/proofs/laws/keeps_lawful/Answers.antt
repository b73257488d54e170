use Rattle.type_table.proofs.Replacing.{lawful_kept}
use Rattle.type_table.proofs.laws.keeps_lawful.Goals as goal

pub returns : goal.returns
returns c = lawful_kept
