use Rattle.std.proofs.Common.{rules}
use Rattle.std.proofs.lemmas.Int.{wraps}
use Rattle.unit_ir.proofs.operator.Unary.apply.Goals as goal

pub returns-in-Neg : goal.returns-in-Neg
returns-in-Neg c = search (rules, wraps)
