use Rattle.lar_tree.proofs.FirstTokens.{expr-begins, type-begins}
use Rattle.lar_tree.proofs.laws.first_tokens.Goals as goal

pub returns-clause-of_expr : goal.returns-clause-of_expr
returns-clause-of_expr c = expr-begins

pub returns-clause-of_type : goal.returns-clause-of_type
returns-clause-of_type c = type-begins
