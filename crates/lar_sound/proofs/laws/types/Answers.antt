use Rattle.lar_sound.proofs.WrittenTold.{written_told}
use Rattle.lar_sound.proofs.WrittenLawful.{written_fits}
use Rattle.lar_sound.proofs.laws.types.Goals as goal

pub returns-clause-told : goal.returns-clause-told
returns-clause-told c = written_told

pub returns-clause-lawful : goal.returns-clause-lawful
returns-clause-lawful c = written_fits
