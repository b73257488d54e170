use Rattle.lar_assembled.proofs.FunctionFacts.{function_kept}
use Rattle.lar_assembled.proofs.laws.kept.Goals as goal

pub returns : goal.returns
returns c = λ old new f p k. function_kept old new f p (λ g q. c.kept.ensures.functions old new g q k)
