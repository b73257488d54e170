use Rattle.work_products.proofs.StoreLaws.{faithful-empty, faithful-removed, faithful-pruned, faithful-saved, faithful-built, faithful-found}
use Rattle.work_products.proofs.laws.faithful_stores.Goals as goal

pub returns-clause-empty : goal.returns-clause-empty
returns-clause-empty g c = λ made. faithful-empty made

pub returns-clause-saved : goal.returns-clause-saved
returns-clause-saved g c = λ made. faithful-saved made

pub returns-clause-removed : goal.returns-clause-removed
returns-clause-removed g c = λ made. faithful-removed made

pub returns-clause-pruned : goal.returns-clause-pruned
returns-clause-pruned g c = λ made. faithful-pruned made

pub returns-clause-built : goal.returns-clause-built
returns-clause-built g c = λ made. faithful-built made

pub returns-clause-found : goal.returns-clause-found
returns-clause-found g c = λ made. faithful-found made
