use Rattle.lar_assembled.proofs.FunctionFacts.{function_stands}
use Rattle.lar_assembled.proofs.laws.functions.Goals as goal

pub returns : goal.returns
returns c = function_stands
