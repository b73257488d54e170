use Rattle.lar_sound.proofs.ExprsTold.{judge_told}
use Rattle.lar_sound.proofs.ExprsLawful.{judge_lawful}
use Rattle.lar_sound.proofs.ExprsStatic.{judge_static}
use Rattle.lar_sound.proofs.ExprsSmall.{judge_small}
use Rattle.lar_sound.proofs.laws.exprs.Goals as goal

pub returns-clause-told : goal.returns-clause-told
returns-clause-told c = judge_told

pub returns-clause-lawful : goal.returns-clause-lawful
returns-clause-lawful c = judge_lawful

pub returns-clause-asserted : goal.returns-clause-asserted
returns-clause-asserted c = λ b s e. judge_static b.site s.locals e

pub returns-clause-small : goal.returns-clause-small
returns-clause-small c = judge_small
