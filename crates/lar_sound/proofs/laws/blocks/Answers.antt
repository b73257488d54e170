use Rattle.lar_sound.proofs.StmtsTold.{body_told}
use Rattle.lar_sound.proofs.StmtsLawful.{body_lawful}
use Rattle.lar_sound.proofs.StmtsReturn.{block_same}
use Rattle.lar_sound.proofs.StmtsSmall.{body_small}
use Rattle.lar_sound.proofs.laws.blocks.Goals as goal

pub returns-clause-told : goal.returns-clause-told
returns-clause-told c = body_told

pub returns-clause-lawful : goal.returns-clause-lawful
returns-clause-lawful c = body_lawful

pub returns-clause-same_end : goal.returns-clause-same_end
returns-clause-same_end c = block_same

pub returns-clause-small : goal.returns-clause-small
returns-clause-small c = body_small
