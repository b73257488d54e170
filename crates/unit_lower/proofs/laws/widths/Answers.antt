use Rattle.std.proofs.Common.{arith}
use Rattle.unit_lower.specs.Lowering.{lower, lower_stmts}
use Rattle.unit_lower.proofs.Gives.{lower_gives}
use Rattle.unit_lower.proofs.Suits.{lower_suit}
use Rattle.unit_lower.proofs.laws.widths.Goals as goal

pub returns-clause-expressions : goal.returns-clause-expressions
returns-clause-expressions c = λ s e k ok low above. lower_gives s (lower s e k).next e k ok low above (omega arith)

pub returns-clause-bodies : goal.returns-clause-bodies
returns-clause-bodies c = λ s body k ok low above few. lower_suit s (lower_stmts s body k).next body k ok low above (omega arith) few
