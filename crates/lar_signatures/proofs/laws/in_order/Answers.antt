use Rattle.lar_signatures.proofs.InOrder.{decls_within, decls_in_order}
use Rattle.lar_signatures.proofs.laws.in_order.Goals as goal

pub returns-clause-within : goal.returns-clause-within
returns-clause-within c = decls_within

pub returns-clause-are : goal.returns-clause-are
returns-clause-are c = decls_in_order
